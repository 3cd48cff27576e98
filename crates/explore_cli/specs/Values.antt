-- Explorations as values of the code.
use Rattle.std.specs.Prelude.{◌≤◌, length}
use Rattle.spec_core.specs.declared.records.Spec.{Spec}
use Rattle.clause_core.specs.declared.reports.Report.{Report}
use Rattle.explorations.specs.Explorations.{IsExplorationAs}
use Rattle.explorations.specs.declared.checking.Exploration.{Exploration}
use Rattle.file_replies.specs.Reads.{most_report_bytes}
use Rattle.explore_cli.specs.Written.{Explores}

-- it is one over this report, and its own report isn't too long for `replay`
pub record IsFound (spec : Spec) (base : Report) (found : Exploration) : Type 0 where
  pub is_exploration :
      IsExplorationAs spec base found.text.items found.accepted.raw found.accepted.admitted.spec
      found.report_text.items found.report
  pub short : length found.report_text.items ≤ most_report_bytes

-- it is one over the report of `prove`
abbrev pub IsExplored : Spec → Exploration → Type 0
IsExplored spec found =
    Explores spec found.text.items found.accepted.raw found.accepted.admitted.spec
    found.report_text.items found.report
