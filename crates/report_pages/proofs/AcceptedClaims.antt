-- The claims of an accepted report, one after the other.
use Rattle.std.proofs.Common.{◌≡◌, ℕ, ◌+◌, ◌<◌, List, [], ◌∷◌, ◌++◌, Bool, true, false, Option}
use Rattle.std.proofs.Common.{refl, sym, ◌∙◌, ap, subst, length, take, drop, get_or}
use Rattle.std.specs.Prelude.{◌||◌, Contains}
use Rattle.std.specs.List.{list_any}
use Rattle.term_core.specs.Tree.{Tree}
use Rattle.term_core.proofs.Items.{taken_next}
use Rattle.spec_core.specs.declared.records.Goal.{Goal}
use Rattle.spec_core.specs.declared.records.Spec.{Spec}
use Rattle.spec_core.specs.WellSorted.{IsWellSorted}
use Rattle.clause_core.specs.declared.reports.Claim.{Claim}
use Rattle.clause_core.specs.declared.steps.Step.{Step}
use Rattle.clause_core.specs.declared.clauses.Clause.{Clause}
use Rattle.acceptance.specs.Accepting.{ClaimIsAccepted, ClaimsAreAccepted, IsShown}
use Rattle.acceptance.specs.Blocks.{Proves}
use Rattle.acceptance.proofs.NoRefusal.{goal_named_one}
use Rattle.acceptance.specs.Claims.{IsGoalNamed, ProvedBefore}
use Rattle.claimed_goals.specs.Tracking.{AreProved}
use Rattle.claimed_goals.proofs.UsableGoals.{makes_same}
use Rattle.std.proofs.Common.{suc, add-one}
use Rattle.std.proofs.Math.Seq.{drop-cons}
use Rattle.report_pages.specs.Claims.{HaveGoals, IsLineShown}
use Rattle.report_pages.specs.Lists.{AreShown, Where}
use Rattle.report_pages.specs.ReportPages.{is_asked}

-- an item and those after it are the items from its place on
split_at :
    {X : Type 0} (xs : List X) (i : ℕ) (x : X) → i < length xs → x ≡ get_or xs i x →
    drop i xs ≡ x ∷ drop (i + 1) xs
split_at xs i x lt is =
    drop-cons xs i x lt ∙ ap (λ y. y ∷ drop (suc i) xs) (sym is) ∙ ap (λ n. x ∷ drop n xs) (sym (add-one i))

module _ (above : Tree → Tree → Type 0) (spec : Spec) (steps : ℕ) where
  -- each claim of an accepted report is on a goal
  pub have_goals : (before claims : List Claim) → ClaimsAreAccepted above spec steps before claims →
      HaveGoals spec claims
  have_goals before [] a = tt
  have_goals before (claim ∷ claims) a = (
    (a.0.named.0, a.0.goal, (a.0.named.1, a.0.named.2)),
    have_goals (before ++ claim ∷ []) claims a.1,
  )

  module _ (claims : List Claim) (i : ℕ) (claim : Claim) (lt : i < length claims) (is : claim ≡ get_or claims i claim)
      (a : ClaimsAreAccepted above spec steps (take i claims) (drop i claims)) where
    both : ClaimIsAccepted above spec steps (take i claims) claim
        × ClaimsAreAccepted above spec steps (take i claims ++ claim ∷ []) (drop (i + 1) claims)
    both = subst (λ cs. ClaimsAreAccepted above spec steps (take i claims) cs) (split_at claims i claim lt is) a

    pub first_accepted : ClaimIsAccepted above spec steps (take i claims) claim
    first_accepted = both.0

    pub others_accepted : ClaimsAreAccepted above spec steps (take (i + 1) claims) (drop (i + 1) claims)
    others_accepted =
        subst (λ bs. ClaimsAreAccepted above spec steps bs (drop (i + 1) claims))
        (sym (taken_next claims i claim lt is)) both.1

  -- a claim says nothing of its goal that isn't shown
  pub goal_shown :
      IsWellSorted spec → (before : List Claim) (claim : Claim) →
      ClaimIsAccepted above spec steps before claim → (goal : Goal) → IsGoalNamed spec claim.goal goal →
      IsShown above spec steps before goal claim.outcome
  goal_shown fine before claim accepted goal named =
      subst (λ g. IsShown above spec steps before g claim.outcome)
      (goal_named_one spec fine claim.goal accepted.goal goal accepted.named named) accepted.shown

  -- a block proves a clause over the list of the goals that the claims prove
  pub proves_over :
      (before : List Claim) (proved : List ℕ) → AreProved spec before proved → (start : Clause) (block : List Step) →
      Proves above spec (ProvedBefore spec before) start block → Proves above spec (Contains proved) start block
  proves_over before proved are start block p = record {
    within = p.within;
    made = p.made;
    makes =
        makes_same above spec (ProvedBefore spec before) (Contains proved) (λ k. ((are k).1, (are k).0)) (start ∷ []) 0
        block p.made p.makes;
    finished = p.finished;
    allowed = p.allowed;
  }

-- if no claim is asked for, no line is shown
pub none_asked :
    (asked : Option (List ℕ)) (spec : Spec) (before claims : List Claim) →
    list_any (is_asked asked) claims ≡ false →
    AreShown (λ before claim shown. Where (is_asked asked claim) (IsLineShown spec claim) shown) before claims []
none_asked asked spec before [] none = refl
none_asked asked spec before (claim ∷ claims) none =
    let split = neither (is_asked asked claim) (list_any (is_asked asked) claims) none in
    let own : Where (is_asked asked claim) (IsLineShown spec claim) [] =
    subst (λ b. Where b (IsLineShown spec claim) []) (sym split.0) refl in
    ([], [], own, none_asked asked spec (before ++ claim ∷ []) claims split.1, refl)
  where
    neither : (a b : Bool) → (a || b) ≡ false → (a ≡ false) × (b ≡ false)
    neither true b h = absurd (let q : true ≡ false = h in cc)
    neither false b h = (refl, h)
