-- What is written for an accepted specification.
use Rattle.std.specs.Prelude.{◌≡◌, ◌≤◌, ℕ, List, length}
use Rattle.spec_core.specs.declared.records.Spec.{Spec}
use Rattle.spec_grammar.specs.declared.raw.RawSpec.{RawSpec}
use Rattle.clause_core.specs.declared.reports.Report.{Report}
use Rattle.explorations.specs.Explorations.{IsExplorationAs}
use Rattle.explore_words.specs.declared.requests.Form.{Form}
use Rattle.explore_words.specs.declared.requests.Form.TheVariants.{Text, Report as OfReport}
use Rattle.file_replies.specs.declared.statuses.Status.{Status}
use Rattle.file_replies.specs.Reads.{most_report_bytes}
use Rattle.explore_cli.specs.Bases.{IsBase}
use Rattle.explore_cli.specs.Statuses.{IsStatusOf}

-- the two texts are those of an exploration of the specification over the report of `prove`, and the
-- second one isn't too long for `replay`
pub record Explores (spec : Spec) (text : List ℕ) (raw : RawSpec) (new : Spec)
    (report_text : List ℕ) (report : Report) : Type 0 where
  pub base_text : List ℕ
  pub base : Report
  pub of_prove : IsBase spec base_text base
  pub is_exploration : IsExplorationAs spec base text raw new report_text report
  pub short : length report_text ≤ most_report_bytes

-- of the two texts the one that is asked for
abbrev pub chosen : Form → List ℕ → List ℕ → List ℕ
chosen Text text report_text = text
chosen OfReport text report_text = report_text

-- the text or the report of an exploration is written, with the status that the report gives
pub record IsEnd (form : Form) (spec : Spec) (written : List ℕ) (status : Status) : Type 0 where
  pub text : List ℕ
  pub raw : RawSpec
  pub new : Spec
  pub report_text : List ℕ
  pub report : Report
  pub explores : Explores spec text raw new report_text report
  pub is_written : written ≡ chosen form text report_text
  pub gives : IsStatusOf new report status

-- the text alone
abbrev pub MayBeWritten : Form → Spec → List ℕ → Type 0
MayBeWritten form spec written = (status : Status) × IsEnd form spec written status
