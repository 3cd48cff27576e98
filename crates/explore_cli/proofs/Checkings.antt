-- What is answered of a proposal that is an exploration.
use Rattle.std.proofs.Common.{◌≤◌, ℕ, List, Option, Some, None, length, subst, sym}
use Rattle.std.specs.Prelude.{IfSome}
use Rattle.spec_core.specs.declared.records.Spec.{Spec}
use Rattle.clause_core.specs.declared.reports.Report.{Report}
use Rattle.explorations.specs.Answers.{Checks}
use Rattle.explorations.specs.Explorations.{IsExplorationAs}
use Rattle.explorations.specs.declared.checking.Exploration.{Exploration}
use Rattle.file_replies.specs.Reads.{most_report_bytes}
use Rattle.explore_cli.specs.Values.{IsFound}

module _
    (spec : Spec) (base : Report) (text report_text : List ℕ)
    (short : length report_text ≤ most_report_bytes) where
  pub checked_found :
      (answer : Option Exploration) → Checks spec base text report_text answer →
      IfSome answer (IsFound spec base)
  checked_found None h = tt
  checked_found (Some e) h =
      let as_texts = subst (λ (t : List ℕ). IsExplorationAs spec base t e.accepted.raw
      e.accepted.admitted.spec report_text e.report) (sym h.0) h.3 in
      record {
        is_exploration = subst (λ (t : List ℕ). IsExplorationAs spec base e.text.items e.accepted.raw
            e.accepted.admitted.spec t e.report) (sym h.1) as_texts;
        short = subst (λ (t : List ℕ). length t ≤ most_report_bytes) (sym h.1) short;
      }
