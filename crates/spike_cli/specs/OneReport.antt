-- The right report is one.
use Rattle.std.specs.Prelude.{◌≡◌, ℕ, List, Option}
use Rattle.std.specs.Io.{StartsWith}
use Rattle.io_core.specs.Piece.{AppendedPrefix}
use Rattle.spec_core.specs.declared.records.Spec.{Spec}
use Rattle.spec_core.specs.WellSorted.{IsWellSorted}
use Rattle.command_line.specs.declared.bounds.ProofBounds.{ProofBounds}
use Rattle.file_replies.specs.declared.statuses.Status.{Status}
use Rattle.file_replies.specs.Parts.{AppendsPartOf}
use Rattle.spike_cli.specs.Reports.{BeginsReport, IsReport}

-- the text and the status are the only report of the specification with these bounds
pub record IsOnlyReport (bounds : ProofBounds) (spec : Spec) (text : List ℕ)
    (status : Status) : Type 0 where
  -- every whole report has this text and this status
  pub only :
      (other : List ℕ) (ending : Status) → IsReport bounds spec other ending →
      (other ≡ text) × (ending ≡ status)
  -- the text starts with every text that a report may begin with
  pub begins : (part : List ℕ) → BeginsReport bounds spec part → StartsWith text part
  -- if part of such a text was appended, or nothing, then a prefix of this text was
  pub appended :
      (old new : Option (List ℕ)) → AppendsPartOf (BeginsReport bounds spec) old new →
      AppendedPrefix old new text

-- every report of a well sorted specification is its only one with these bounds
abbrev pub OneRightReport : Type 0
OneRightReport =
    (bounds : ProofBounds) (spec : Spec) (text : List ℕ) (status : Status) → IsWellSorted spec →
    IsReport bounds spec text status → IsOnlyReport bounds spec text status
