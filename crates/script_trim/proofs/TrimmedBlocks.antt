-- The block of a claim after one cut more.
use Rattle.std.proofs.Common.{◌≡◌, ℕ, ◌<◌, List, [], Some, refl, sym, ◌∙◌, ap, subst, arith, length}
use Rattle.std.specs.Prelude.{slice_get, slice_set}
use Rattle.std.proofs.lemmas.Option.{slice_get_within}
use Rattle.term_core.specs.Tree.{Tree}
use Rattle.spec_core.specs.declared.records.Goal.{Goal}
use Rattle.spec_core.specs.declared.records.Spec.{Spec}
use Rattle.spec_core.specs.WellSorted.{IsWellSorted}
use Rattle.clause_core.specs.declared.reports.Claim.{Claim}
use Rattle.clause_core.specs.declared.reports.Outcome.TheVariants.{Proved}
use Rattle.clause_core.specs.declared.reports.Report.{Report}
use Rattle.clause_core.specs.declared.steps.Block.{Block}
use Rattle.clause_core.specs.declared.steps.Step.{Step}
use Rattle.clause_core.specs.ClauseLaws.{OneRelation}
use Rattle.acceptance.specs.Accepting.{IsAccepted}
use Rattle.acceptance.specs.Claims.{IsGoalNamed}
use Rattle.script_trim.specs.declared.blocks.KeptBlock.{KeptBlock}
use Rattle.script_trim.specs.Kept.{kept_report, IsKept}
use Rattle.script_trim.specs.OneClaim.{IsFirstClosing, LeadsWithin, ends, goes_on, with_claim}
use Rattle.script_trim.specs.Trimmed.{proves, with_steps, CouldBeClosed}
use Rattle.script_trim.proofs.ClaimByClaim.{set_again, set_there}
use Rattle.script_trim.proofs.FirstCuts.{shorter}
use Rattle.script_trim.proofs.OneCut.{steps_same}
use Rattle.script_trim.proofs.Places.{set_same}
use Rattle.script_trim.proofs.ReplacedClaims.{accepted_at}

-- the name of a claim that is proved
one_name :
    (claims : List Claim) (number : ℕ) (name other : List ℕ) (steps rest : List Step) →
    slice_get claims number ≡ Some (proves name steps) → slice_get claims number ≡ Some (proves other rest) →
    name ≡ other
one_name claims number name other steps rest p q =
    let e : Some (proves name steps) ≡ Some (proves other rest) = sym p ∙ q in
    let c : proves name steps ≡ proves other rest = cc in
    ap (λ (x : Claim). x.goal) c

module _ (above : Tree → Tree → Type 0) (spec : Spec) (report : Report) (number : ℕ) where
  -- the report with a block that has the steps of the claim is the report
  pub same_report :
      (block : KeptBlock) (k : IsKept above spec report number block) (name : List ℕ) (steps : List Step) →
      slice_get report.claims number ≡ Some (proves name steps) → block.steps.items ≡ steps →
      kept_report above spec report number k.name block ≡ report
  same_report block k name steps at is =
      let n : k.name ≡ name = one_name report.claims number k.name name k.old steps k.there at in
      let e : slice_set report.claims number (proves k.name block.steps.items) ≡ report.claims =
      (λ j. slice_set report.claims number (proves (n j) (is j))) ∙ set_there report.claims number
      (proves name steps) at in
      λ j. record { steps = report.steps; claims = e j }

  pub one_block_name :
      (block other : KeptBlock) (k : IsKept above spec report number block)
      (l : IsKept above spec report number other) → k.name ≡ l.name
  one_block_name block other k l = one_name report.claims number k.name l.name k.old l.old k.there l.there

  -- if no node could be closed, the cuts are at their end
  pub no_more_cuts :
      (first block : KeptBlock) (k : IsKept above spec report number first)
      (l : IsKept above spec report number block) → ((i : ℕ) →
      CouldBeClosed above spec (kept_report above spec report number l.name block) number i → ⊥)
      → ((last : Report) → LeadsWithin above spec number (kept_report above spec report number l.name block) last →
      LeadsWithin above spec number (kept_report above spec report number k.name first) last)
      → LeadsWithin above spec number (kept_report above spec report number k.name first)
      (with_steps report number k.name block.steps.items)
  no_more_cuts first block k l none leads =
      subst (λ name. LeadsWithin above spec number (kept_report above spec report number k.name first)
      (with_steps report number name block.steps.items)) (one_block_name block first l k)
      (leads (kept_report above spec report number l.name block) (ends none))

  module _ (one : OneRelation above) (fine : IsWellSorted spec) (block made : KeptBlock)
      (k : IsKept above spec report number block) (i : ℕ) (step : Step) (rest : List Step)
      (f : IsFirstClosing above spec number (kept_report above spec report number k.name block) i step rest) where
    within : number < length report.claims
    within = slice_get_within report.claims number (proves k.name k.old) k.there

    old_there :
        slice_get (slice_set report.claims number (proves k.name block.steps.items)) number ≡ Some
        (proves k.name block.steps.items)
    old_there = set_same report.claims number (proves k.name block.steps.items) within

    pub one_cut :
        (l : IsKept above spec report number made) → made.steps.items ≡ rest → (last : Report) →
        LeadsWithin above spec number (kept_report above spec report number l.name made) last →
        LeadsWithin above spec number (kept_report above spec report number k.name block) last
    one_cut l is last leads =
        let name = f.first_step.closes.claim.goal.name in
        let n : name ≡ l.name = one_name (slice_set report.claims number (proves k.name block.steps.items)) number
        name k.name f.first_step.closes.claim.steps block.steps.items f.first_step.closes.claim.is old_there ∙
        one_block_name block made k l in
        let p : slice_set (slice_set report.claims number (proves k.name block.steps.items)) number (proves name rest)
        ≡ slice_set report.claims number (proves l.name made.steps.items) =
        set_again report.claims number (proves k.name block.steps.items) (proves name rest) ∙
        (λ j. slice_set report.claims number (proves (n j) (sym is j))) in
        let e : kept_report above spec report number l.name made ≡ with_steps
        (kept_report above spec report number k.name block) number name rest =
        (λ j. record { steps = report.steps; claims = sym p j }) in
        goes_on i step rest f (subst (λ r. LeadsWithin above spec number r last) e leads)

    pub fewer_steps : made.steps.items ≡ rest → length made.steps.items < length block.steps.items
    fewer_steps is =
        let l = shorter above spec one fine (kept_report above spec report number k.name block) number i step rest
        k.accepted f.children f.first_step.closes in
        let s : f.first_step.closes.claim.steps ≡ k.claim.steps =
        steps_same above one spec fine (kept_report above spec report number k.name block) number number refl
        f.first_step.closes.claim k.claim in
        omega (arith, l, ap length s, ap length k.steps, ap length is)

module _ (above : Tree → Tree → Type 0) (spec : Spec) (report : Report) (number : ℕ) where
  -- a claim that isn't proved stays as it is
  pub unproved_stays :
      (claim : Claim) → slice_get report.claims number ≡ Some claim →
      ((block : Block) → claim.outcome ≡ Proved block → ⊥) →
      LeadsWithin above spec number report (with_claim report number claim)
  unproved_stays claim at not =
      let p : slice_set report.claims number claim ≡ report.claims = set_there report.claims number claim at in
      let e : report ≡ with_claim report number claim = (λ j. record { steps = report.steps; claims = sym p j }) in
      subst (λ r. LeadsWithin above spec number report r) e (ends none)
    where
      none : (i : ℕ) → CouldBeClosed above spec report number i → ⊥
      none i could =
          let q : Some claim ≡ Some (proves could.0.claim.goal.name could.0.claim.steps) = sym at ∙ could.0.claim.is in
          let e : claim ≡ proves could.0.claim.goal.name could.0.claim.steps = cc in
          not (record { steps = could.0.claim.steps }) (ap (λ (c : Claim). c.outcome) e)

  -- a proved claim gets the steps that are left of its block
  pub proved_trims :
      (block : KeptBlock) (k : IsKept above spec report number block) (name : List ℕ) (steps rest : List Step) →
      slice_get report.claims number ≡ Some (proves name steps) → block.steps.items ≡ steps →
      LeadsWithin above spec number (kept_report above spec report number k.name block)
      (with_steps report number k.name rest) → LeadsWithin above spec number report
      (with_claim report number (proves name rest))
  proved_trims block k name steps rest at is leads =
      let n : k.name ≡ name = one_name report.claims number k.name name k.old steps k.there at in
      subst (λ r. LeadsWithin above spec number r (with_steps report number name rest))
      (same_report above spec report number block k name steps at is)
      (subst (λ m. LeadsWithin above spec number (kept_report above spec report number k.name block)
      (with_steps report number m rest)) n leads)

-- the goal of a claim is one of the specification's
pub goal_there :
    (above : Tree → Tree → Type 0) (spec : Spec) (report : Report) → IsAccepted above spec report →
    (number : ℕ) (claim : Claim) → slice_get report.claims number ≡ Some claim → (goal : Goal) ×
    IsGoalNamed spec claim.goal goal
goal_there above spec report a number claim at =
    let h = accepted_at above spec report.steps [] report.claims a number claim at in
    (h.goal, h.named)

-- the claim by the steps of its block
pub claim_proves :
    (claims : List Claim) (number : ℕ) (claim : Claim) (name : List ℕ) (block : Block) (steps : List Step) →
    slice_get claims number ≡ Some claim → name ≡ claim.goal → claim.outcome ≡ Proved block → steps ≡ block.steps →
    slice_get claims number ≡ Some (proves name steps)
claim_proves claims number claim name block steps at n o e =
    let out : claim.outcome ≡ Proved (record { steps = steps }) =
    o ∙ ap (λ ss. Proved (record { steps = ss })) (sym e) in
    let c : claim ≡ proves name steps = (λ j. record { goal = sym n j; outcome = out j }) in
    at ∙ ap (λ x. Some x) c
