-- The symbols in the lines of an accepted report are the signature's, as the printer of reports asks.
use Rattle.std.proofs.Common.{ℕ, List, [], ◌∷◌, ◌++◌, map}
use Rattle.std.specs.List.{AllByRecursion}
use Rattle.term_core.specs.Tree.{Tree}
use Rattle.term_core.specs.declared.ids.SortId.{SortId}
use Rattle.spec_core.specs.declared.records.Goal.{Goal}
use Rattle.spec_core.specs.declared.records.Spec.{Spec}
use Rattle.spec_core.specs.Truth.{AreValuesOf}
use Rattle.spec_core.specs.WellSorted.{sorts_of}
use Rattle.clause_core.specs.declared.reports.Claim.{Claim}
use Rattle.clause_core.specs.declared.reports.Outcome.{Outcome}
use Rattle.clause_core.specs.declared.reports.Outcome.TheVariants.{Proved, Refuted, Open}
use Rattle.clause_core.specs.declared.reports.Report.{Report}
use Rattle.clause_core.specs.Tidied.{goal_clause}
use Rattle.acceptance.specs.Accepting.{NamedValues, values_in, IsShown, ClaimsAreAccepted, IsAccepted}
use Rattle.acceptance.specs.Claims.{ProvedBefore}
use Rattle.proof_script.specs.Claims.{value_line}
use Rattle.proof_script.specs.Ranges.{LineIsInRange, ClaimIsInRange, ReportIsInRange}
use Rattle.block_steps.proofs.StepsInRange.{sorted_in_range, claim_in_range}

module _ (above : Tree → Tree → Type 0) (spec : Spec) where
  values_in_range :
      (ss : List SortId) (values : NamedValues) → AreValuesOf spec ss (values_in values) →
      AllByRecursion (LineIsInRange spec.sig) (map value_line values)
  values_in_range ss [] h = tt
  values_in_range [] (v ∷ values) h = absurd h
  values_in_range (s ∷ ss) (v ∷ values) h =
      ((tt, (sorted_in_range spec.sig [] v.1 s h.0.0, tt)), values_in_range ss values h.1)

  shown_in_range :
      (steps : ℕ) (before : List Claim) (goal : Goal) (name : List ℕ) (outcome : Outcome) →
      IsShown above spec steps before goal outcome →
      ClaimIsInRange spec.sig (record { goal = name; outcome = outcome })
  shown_in_range steps before goal name (Proved block) h =
      claim_in_range above spec (ProvedBefore spec before) name block (goal_clause goal) h.made
      h.makes
  shown_in_range steps before goal name (Refuted index values) h = (
    (tt, (tt, (tt, (tt, (tt, tt))))),
    values_in_range (sorts_of goal.vars) values h.0.sorts,
  )
  shown_in_range steps before goal name (Open budget) h =
      ((tt, (tt, (tt, (tt, (tt, (tt, (tt, (tt, (tt, (tt, (tt, (tt, (tt, tt))))))))))))), tt)

  claims_in_range :
      (steps : ℕ) (before claims : List Claim) → ClaimsAreAccepted above spec steps before claims →
      AllByRecursion (ClaimIsInRange spec.sig) claims
  claims_in_range steps before [] a = tt
  claims_in_range steps before (c ∷ claims) a = (
    shown_in_range steps before a.0.goal c.goal c.outcome a.0.shown,
    claims_in_range steps (before ++ c ∷ []) claims a.1,
  )

  pub accepted_in_range :
      (report : Report) → IsAccepted above spec report → ReportIsInRange spec.sig report
  accepted_in_range report a = claims_in_range report.steps [] report.claims a
