-- What a claim says is true.
use Rattle.std.proofs.Common.{◌≡◌, ℕ, List, [], ◌∷◌, ◌++◌, Some, inl, inr, refl, sym, ◌∙◌, ap, subst}
use Rattle.std.specs.Prelude.{slice_get, Contains}
use Rattle.std.specs.List.{AllByRecursion}
use Rattle.term_core.specs.Tree.{Tree}
use Rattle.spec_core.specs.declared.records.Goal.{Goal}
use Rattle.spec_core.specs.declared.records.Spec.{Spec}
use Rattle.spec_core.specs.Order.{substitutions}
use Rattle.spec_core.specs.Truth.{AreValuesOf, GoalFails, GoalIsTrue}
use Rattle.spec_core.specs.WellSorted.{IsWellSorted, sorts_of}
use Rattle.spec_order.specs.Orders.{above_of}
use Rattle.refuter.specs.declared.answers.Search.{Search}
use Rattle.refuter.specs.declared.answers.Search.TheVariants.{Found, NotFound}
use Rattle.refuter.specs.Finds.{IsFalse}
use Rattle.clause_core.specs.declared.reports.Budget.{Budget}
use Rattle.clause_core.specs.declared.reports.Claim.{Claim}
use Rattle.clause_core.specs.declared.reports.Outcome.{Outcome}
use Rattle.clause_core.specs.declared.reports.Outcome.TheVariants.{Proved, Refuted, Open}
use Rattle.clause_core.specs.declared.reports.Report.{Report}
use Rattle.clause_core.specs.declared.steps.Block.{Block}
use Rattle.clause_core.specs.Admitted.{IsAdmitted}
use Rattle.clause_core.specs.Tidied.{goal_clause}
use Rattle.acceptance.specs.Accepting.{IsAccepted}
use Rattle.acceptance.specs.Blocks.{Proves}
use Rattle.acceptance.specs.Claims.{ProvedBefore}
use Rattle.acceptance.proofs.Longer.{claims_longer}
use Rattle.routine_proof.specs.Laws.{ProvesBehindClaims}
use Rattle.routine_proof.specs.Routine.{starts, IsProof}
use Rattle.soundness.specs.AcceptedAreTrue.{AcceptedAreTrue}
use Rattle.soundness.specs.ReportTruth.{ClaimIsTrue, OutcomeIsTrue}
use Rattle.search_claims.specs.Claims.{named, outcome_of, IsClaimOn as IsClaimOfSearch}
use Rattle.search_claims.proofs.NamedValues.{values_named}
use Rattle.command_line.specs.declared.bounds.ProofBounds.{ProofBounds}
use Rattle.spike_cli.specs.Claims.{IsOutcomeOf, IsUnrefuted, IsClaimOn, budget_of}
use Rattle.spike_cli.specs.Lemmas.{AreLemmas}
use Rattle.spike_cli.proofs.ProvedGoals.{first_item}

-- values under which the goal fails
refuted_true :
    (spec : Spec) (goal : Goal) (tries index : ℕ) (rows : List (List Tree)) (row : List Tree) →
    IsFalse spec goal tries rows (Found index row) →
    OutcomeIsTrue spec goal (Refuted index (named goal.vars row))
refuted_true spec goal tries index rows row f =
    let same = values_named spec goal.vars row f.2 in (
      subst (λ ts. AreValuesOf spec (sorts_of goal.vars) ts) (sym same) f.2,
      subst (λ ts. GoalFails spec ts goal) (sym same) f.3,
    )

-- what is claimed as proved is proved after claims that prove the lemmas
pub proves_behind :
    (spec : Spec) → ProvesBehindClaims (above_of spec) → (bounds : ProofBounds) (lemmas : List ℕ)
    (goal : Goal) (before : List Claim) → ((number : ℕ) → Contains lemmas number →
    ProvedBefore spec before number) → (block : Block) (tried : Budget) →
    IsUnrefuted bounds spec lemmas goal tried (Proved block) →
    Proves (above_of spec) spec (ProvedBefore spec before) (goal_clause goal) block.steps
proves_behind spec behind bounds lemmas goal before known block tried (inl is) = is.proves before
proves_behind spec behind bounds lemmas goal before known block tried (inr is) =
    let p =
    (first_item (IsProof (above_of spec) spec lemmas goal bounds.nodes) (starts (goal_clause goal))
    block.steps is.1).2 in
    behind spec lemmas before (goal_clause goal) block.steps known p.proves

-- what is claimed after the claim of a search: if this is open, what its numbers and proofs
-- give,
-- and else the same
module _ (bounds : ProofBounds) (spec : Spec) (lemmas : List ℕ) (goal : Goal) where
  abbrev pub Follows : Outcome → Outcome → Type 0
  Follows (Proved block) outcome = outcome ≡ Proved block
  Follows (Refuted index values) outcome = outcome ≡ Refuted index values
  Follows (Open searched) outcome =
      IsUnrefuted bounds spec lemmas goal
      (budget_of bounds searched.tried searched.skipped searched.cut) outcome

  pub not_open :
      (searched : Outcome) → ((budget : Budget) → searched ≡ Open budget → ⊥) →
      (outcome : Outcome) → outcome ≡ searched → Follows searched outcome
  not_open (Proved block) n outcome e = e
  not_open (Refuted index values) n outcome e = e
  not_open (Open budget) n outcome e = absurd (n budget refl)

  pub looked_for :
      (searched : Outcome) (budget : Budget) → searched ≡ Open budget → (outcome made : Outcome) →
      outcome ≡ made → IsUnrefuted bounds spec lemmas goal
      (budget_of bounds budget.tried budget.skipped budget.cut) made → Follows searched outcome
  looked_for searched budget open_is outcome made is h =
      subst (λ s. Follows s outcome) (sym open_is)
      (subst (λ o. IsUnrefuted bounds spec lemmas goal
      (budget_of bounds budget.tried budget.skipped budget.cut) o) (sym is) h)

-- the last claim of an accepted report
last_claim :
    (spec : Spec) (claims : List Claim) (claim : Claim) →
    AllByRecursion (ClaimIsTrue spec) (claims ++ claim ∷ []) → ClaimIsTrue spec claim
last_claim spec [] claim all = all.0
last_claim spec (c ∷ claims) claim all = last_claim spec claims claim all.1

module _
    (spec : Spec) (sound : AcceptedAreTrue (above_of spec))
    (behind : ProvesBehindClaims (above_of spec))
    (fine : IsWellSorted spec) (admitted : IsAdmitted (above_of spec) spec) (goal : Goal)
    (listed : (k : ℕ) × (slice_get spec.goals k ≡ Some goal)) where
  same_goal :
      (other : Goal) (k : ℕ) → slice_get spec.goals k ≡ Some other → other.name ≡ goal.name →
      other ≡ goal
  same_goal other k at e =
      let j : k ≡ listed.0 = fine.names k listed.0 other goal at listed.1 e in
      let p : Some other ≡ Some goal = sym at ∙ (ap (λ n. slice_get spec.goals n) j ∙ listed.1) in
      cc

  module _ (bounds : ProofBounds) (lemmas : List ℕ)
      (known : AreLemmas bounds.search.steps spec goal lemmas) where
    -- a block that proves the goal after the claims on its lemmas makes an accepted report with
    -- them
    proved_true :
        (block : Block) → Proves (above_of spec) spec (ProvedBefore spec known.before) (goal_clause goal)
        block.steps → GoalIsTrue spec goal
    proved_true block p =
        let claim : Claim = record { goal = goal.name; outcome = Proved block } in
        let report : Report =
        record { steps = bounds.search.steps; claims = known.before ++ claim ∷ [] } in
        let accepted : IsAccepted (above_of spec) spec report =
        claims_longer (above_of spec) spec bounds.search.steps [] known.before known.accepted claim
        (record {
          goal = goal;
          named = (listed.0, listed.1, refl);
          first = known.unclaimed;
          shown = p;
        }) in
        let t = last_claim spec known.before claim (sound spec report fine admitted accepted) in
        subst (λ (g : Goal). GoalIsTrue spec g) (same_goal t.0 t.1.0 t.1.1 t.1.2) t.2

    outcome_true :
        (search : Search) (outcome : Outcome) →
        IsFalse spec goal bounds.search.tries (substitutions spec goal bounds.search.depth) search →
        IsOutcomeOf bounds spec lemmas goal search outcome → OutcomeIsTrue spec goal outcome
    outcome_true (Found index row) outcome f is =
        subst (λ o. OutcomeIsTrue spec goal o) (sym is)
        (refuted_true spec goal bounds.search.tries index
        (substitutions spec goal bounds.search.depth) row f)
    outcome_true (NotFound tried skipped cut) (Proved block) f is =
        proved_true block (proves_behind spec behind bounds lemmas goal known.before known.proved
        block (budget_of bounds tried skipped cut) is)
    outcome_true (NotFound tried skipped cut) (Refuted index values) f is = absurd is
    outcome_true (NotFound tried skipped cut) (Open budget) f is = tt

    pub claim_made :
        (searched : Claim) → IsClaimOfSearch bounds.search spec goal searched →
        (outcome : Outcome) → Follows bounds spec lemmas goal searched.outcome outcome →
        IsClaimOn bounds spec lemmas goal (record { goal = searched.goal; outcome = outcome })
    claim_made searched c outcome f =
        let is = by c.search (subst (λ o. Follows bounds spec lemmas goal o outcome) c.outcome f) in
        record {
          search = c.search;
          name = c.name;
          false = c.false;
          exact = c.exact;
          outcome = is;
          true = outcome_true c.search outcome c.false is;
        }
      where
        by :
            (search : Search) → Follows bounds spec lemmas goal
            (outcome_of bounds.search goal search) outcome →
            IsOutcomeOf bounds spec lemmas goal search outcome
        by (Found index values) f = f
        by (NotFound tried skipped cut) f = f
