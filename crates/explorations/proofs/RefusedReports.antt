-- Bytes that are refused are the text of no accepted report.
use Rattle.std.proofs.Common.{ℕ, List, subst}
use Rattle.spec_core.specs.declared.records.Spec.{Spec}
use Rattle.spec_core.specs.WellSorted.{IsWellSorted}
use Rattle.spec_order.specs.Orders.{above_of}
use Rattle.clause_core.specs.declared.reports.Report.{Report}
use Rattle.clause_core.specs.declared.reports.ReplayWhy.{ReplayWhy}
use Rattle.proof_script.specs.Faults.{IsFaultyLine}
use Rattle.proof_script.specs.Laws.{OneFault, OneReport}
use Rattle.proof_script.specs.Texts.{IsReportText}
use Rattle.acceptance.specs.Laws.{OneVerdict}
use Rattle.acceptance.specs.Refusals.{IsFirstRefusal}
use Rattle.explorations.specs.Answers.{IsAcceptedText}

pub faulty_text : OneFault → (spec : Spec) (bytes : List ℕ) (line : ℕ) → IsFaultyLine spec.sig bytes line →
    (report : Report) → IsAcceptedText spec bytes report → ⊥
faulty_text faults spec bytes line faulty report a = faults.none spec.sig bytes report line a.is_report faulty

pub refused_text : OneReport → (spec : Spec) → OneVerdict (above_of spec) → IsWellSorted spec → (bytes : List ℕ)
    (report : Report) → IsReportText spec.sig bytes report → (line : ℕ) (why : ReplayWhy) →
    IsFirstRefusal (above_of spec) spec report line why → (other : Report) → IsAcceptedText spec bytes other → ⊥
refused_text reports spec verdict fine bytes report is line why refusal other a =
    let same = reports.one spec.sig bytes report other fine.signature is a.is_report in
    verdict.not_both spec other line why fine a.replayed
    (subst (λ (r : Report). IsFirstRefusal (above_of spec) spec r line why) same refusal)
