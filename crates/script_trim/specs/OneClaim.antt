-- Cuts within one claim of a report.
use Rattle.std.specs.Prelude.{◌≡◌, ℕ, ◌<◌, List, ◌∷◌, ◌++◌, slice_set}
use Rattle.std.specs.List.{AllByRecursion}
use Rattle.term_core.specs.Tree.{Tree}
use Rattle.spec_core.specs.declared.records.Spec.{Spec}
use Rattle.clause_core.specs.declared.reports.Claim.{Claim}
use Rattle.clause_core.specs.declared.reports.Report.{Report}
use Rattle.clause_core.specs.declared.steps.Step.{Step}
use Rattle.clause_core.specs.Tidied.{goal_clause}
use Rattle.acceptance.specs.Blocks.{nodes_of}
use Rattle.script_trim.specs.Closing.{closing_steps}
use Rattle.script_trim.specs.Trimmed.{with_steps, Closes, HasChildren, CouldBeClosed}

-- the report with this claim in place of the claim with this number
abbrev pub with_claim : Report → ℕ → Claim → Report
with_claim report number claim =
    record { steps = report.steps; claims = slice_set report.claims number claim }

module _ (above : Tree → Tree → Type 0) (spec : Spec) (number : ℕ) where
  -- the step is the first closing step that could close node i of the claim, and these steps are left
  pub record IsFirstStep (report : Report) (i : ℕ) (step : Step) (rest : List Step) : Type 0 where
    pub closes : Closes above spec report number i step rest
    pub before : List Step
    pub after : List Step
    pub parted :
        closing_steps spec (nodes_of (goal_clause closes.claim.goal) closes.claim.made) closes.node
        ≡ before ++ step ∷ after
    pub none_before :
        AllByRecursion
        (λ (s : Step). (others : List Step) → Closes above spec report number i s others → ⊥) before

  -- and node i is the first one that has children and could be closed
  pub record IsFirstClosing (report : Report) (i : ℕ) (step : Step) (rest : List Step) : Type 0 where
    pub children : HasChildren above spec report number i
    pub first_step : IsFirstStep report i step rest
    pub first_node : (j : ℕ) → j < i → CouldBeClosed above spec report number j → ⊥

  -- one such cut after the other, until no node of the claim could be closed
  pub data LeadsWithin : Report → Report → Type 0 where
    ends :
        {report : Report} →
        ((i : ℕ) → CouldBeClosed above spec report number i → ⊥) → LeadsWithin report report
    goes_on :
        {old last : Report} (i : ℕ) (step : Step) (rest : List Step)
        (first : IsFirstClosing old i step rest) →
        LeadsWithin (with_steps old number first.first_step.closes.claim.goal.name rest) last →
        LeadsWithin old last
