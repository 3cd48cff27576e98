-- What `load` writes.
use Rattle.std.specs.Prelude.{◌≡◌, ℕ, List}
use Rattle.spec_core.specs.declared.records.Spec.{Spec}
use Rattle.command_line.specs.Usual.{usual_bounds}
use Rattle.load_text.specs.LoadSpec.{load_spec}
use Rattle.reply_lines.specs.Lines.{load_lines}
use Rattle.file_replies.specs.declared.statuses.Status.{Status}
use Rattle.spike_cli.specs.Reports.{IsReport}

-- how many claims of each kind the report of the generated goals has, with the usual bounds, and
-- that it is accepted
pub record IsLoad (goals : ℕ) (text : List ℕ) : Type 0 where
  pub report : List ℕ
  pub status : Status
  pub finished : IsReport usual_bounds (load_spec goals) report status
  pub is_text : text ≡ load_lines goals finished.claims

-- the bytes are a report with the usual bounds
abbrev pub SomeReport : Spec → List ℕ → Type 0
SomeReport spec bytes = (status : Status) × IsReport usual_bounds spec bytes status

-- this many goals have one such text
abbrev pub OneLoad : Type 0
OneLoad =
    (goals : ℕ) (text other : List ℕ) → IsLoad goals text → IsLoad goals other → text ≡ other
