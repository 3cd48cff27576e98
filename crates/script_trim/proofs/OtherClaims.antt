-- A cut in one claim changes nothing of what could be closed in another one.
use Rattle.std.proofs.Common.{◌≡◌, ℕ, zero, suc, List, [], ◌∷◌, Some, take, refl, sym, ◌∙◌, subst}
use Rattle.std.specs.Prelude.{slice_get, slice_set, ◌⊎◌}
use Rattle.term_core.specs.Tree.{Tree}
use Rattle.spec_core.specs.declared.records.Goal.{Goal}
use Rattle.spec_core.specs.declared.records.Spec.{Spec}
use Rattle.spec_core.specs.WellSorted.{IsWellSorted}
use Rattle.clause_core.specs.declared.reports.Claim.{Claim}
use Rattle.clause_core.specs.declared.reports.Report.{Report}
use Rattle.clause_core.specs.declared.steps.Step.{Step}
use Rattle.clause_core.specs.ClauseLaws.{OneRelation}
use Rattle.clause_core.specs.Tidied.{goal_clause}
use Rattle.acceptance.specs.Accepting.{IsAccepted}
use Rattle.acceptance.specs.Blocks.{nodes_of, StepMakes, StepsMake}
use Rattle.acceptance.specs.Claims.{IsProvedBy, ProvedBefore, SaysProved}
use Rattle.script_trim.specs.Quick.{CanClose}
use Rattle.script_trim.specs.Trimmed.{proves, with_steps, ProvedClaim, Closes}
use Rattle.script_trim.proofs.Places.{set_other}
use Rattle.script_trim.proofs.QuickTests.{sufficient, necessary}

-- the claims before a place prove the same goals, if a proved claim has other steps
proved_taken :
    (name : List ℕ) (s t : List Step) (g : List ℕ) (claims : List Claim) (m n : ℕ) →
    slice_get claims n ≡ Some (proves name s) → IsProvedBy g (take m claims) ≡ IsProvedBy g
    (take m (slice_set claims n (proves name t)))
proved_taken name s t g [] m n at = refl
proved_taken name s t g (c ∷ claims) zero zero at = refl
proved_taken name s t g (c ∷ claims) zero (suc n) at = refl
proved_taken name s t g (c ∷ claims) (suc m) zero at =
    let q : Some c ≡ Some (proves name s) = at in
    let e : c ≡ proves name s = cc in
    λ i. (((e i).goal ≡ g) × SaysProved (e i).outcome) ⊎ IsProvedBy g (take m claims)
proved_taken name s t g (c ∷ claims) (suc m) (suc n) at =
    let r = proved_taken name s t g claims m n at in
    λ i. ((c.goal ≡ g) × SaysProved c.outcome) ⊎ r i

module _ (above : Tree → Tree → Type 0) (spec : Spec) where
  -- two reports that have one claim at a place, and before it prove the same goals
  module _ (report other : Report) (m : ℕ) (same : slice_get report.claims m ≡ slice_get other.claims m)
      (usable : ◌≡◌ {A = ℕ → Type 0} (ProvedBefore spec (take m report.claims))
      (ProvedBefore spec (take m other.claims))) where
    abbrev pub claim_there : ProvedClaim above spec report m → ProvedClaim above spec other m
    claim_there p = record {
      goal = p.goal;
      named = p.named;
      steps = p.steps;
      is = sym same ∙ p.is;
      made = p.made;
      makes =
          subst (λ (u : ℕ → Type 0). StepsMake above spec u (goal_clause p.goal ∷ []) 0 p.steps p.made) usable
          p.makes;
    }

    pub can_there :
        (i : ℕ) (step : Step) (rest : List Step) → CanClose above spec report m i step rest →
        CanClose above spec other m i step rest
    can_there i step rest c = record {
      claim = claim_there c.claim;
      node = c.node;
      node_is = c.node_is;
      closing = c.closing;
      cut = c.cut;
      closed = c.closed;
      closes =
          subst (λ (u : ℕ → Type 0). StepMakes above spec u
          (nodes_of (goal_clause c.claim.goal) (take i c.claim.made)) i step c.closed) usable c.closes;
      allowed = c.allowed;
      short = c.short;
    }

  module _ (one : OneRelation above) (fine : IsWellSorted spec) (report : Report)
      (accepted : IsAccepted above spec report) (n : ℕ) (name : List ℕ) (s t : List Step)
      (at : slice_get report.claims n ≡ Some (proves name s))
      (again : IsAccepted above spec (with_steps report n name t)) (m : ℕ) (apart : m ≡ n → ⊥) where
    pub usable_same : ◌≡◌ {A = ℕ → Type 0} (ProvedBefore spec (take m report.claims))
        (ProvedBefore spec (take m (slice_set report.claims n (proves name t))))
    usable_same =
        λ i number. (goal : Goal) × (slice_get spec.goals number ≡ Some goal) ×
        proved_taken name s t goal.name report.claims m n at i

    pub there : slice_get report.claims m ≡ slice_get (slice_set report.claims n (proves name t)) m
    there = sym (set_other report.claims n m (proves name t) apart)

    pub still :
        (i : ℕ) (step : Step) (rest : List Step) → Closes above spec report m i step rest →
        Closes above spec (with_steps report n name t) m i step rest
    still i step rest c =
        sufficient above one spec fine (with_steps report n name t) again m i step rest
        (can_there report (with_steps report n name t) m there usable_same i step rest
        (necessary above one spec fine report accepted m i step rest c))

    pub before :
        (i : ℕ) (step : Step) (rest : List Step) → Closes above spec (with_steps report n name t) m i step rest →
        Closes above spec report m i step rest
    before i step rest c =
        sufficient above one spec fine report accepted m i step rest
        (can_there (with_steps report n name t) report m (sym there) (sym usable_same) i step rest
        (necessary above one spec fine (with_steps report n name t) again m i step rest c))
