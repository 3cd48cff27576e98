-- Soundness of accepting, for an order on terms.
use Rattle.term_core.specs.Tree.{Tree}
use Rattle.spec_core.specs.declared.records.Spec.{Spec}
use Rattle.spec_core.specs.WellSorted.{IsWellSorted}
use Rattle.clause_core.specs.declared.reports.Report.{Report}
use Rattle.clause_core.specs.Admitted.{IsAdmitted}
use Rattle.acceptance.specs.Accepting.{IsAccepted}
use Rattle.soundness.specs.ReportTruth.{ReportIsTrue}

-- an accepted report on a well sorted and admitted specification is true
abbrev pub AcceptedAreTrue : (Tree → Tree → Type 0) → Type 0
AcceptedAreTrue above =
    (spec : Spec) (report : Report) →
    IsWellSorted spec → IsAdmitted above spec → IsAccepted above spec report →
    ReportIsTrue spec report
