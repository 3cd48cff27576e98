-- What a call of the program answers for a report that another call finished.
use Rattle.std.specs.Prelude.{◌≡◌, ◌≢◌, ℕ, List, ◌++◌, Option, Some}
use Rattle.io_core.specs.Count.{Rose}
use Rattle.io_core.specs.Piece.{Appended}
use Rattle.clause_core.specs.declared.reports.Claim.{Claim}
use Rattle.command_line.specs.Tasks.{Task, checking, refuting, proving, evaluating, replaying, trimming}
use Rattle.command_line.specs.Tasks.{carrying_out, Asks}
use Rattle.reply_lines.specs.Lines.{yes_line}
use Rattle.file_replies.specs.declared.statuses.Status.{Status}
use Rattle.file_replies.specs.declared.statuses.Status.TheVariants.{Done, Refuted, Open, OutOfMemory}
use Rattle.spike_cli.specs.Runs.{Means}

-- the status of a call that finished
abbrev pub IsFinished : Status → Type 0
IsFinished Done = Unit {0}
IsFinished Refuted = Unit {0}
IsFinished Open = Unit {0}
IsFinished _ = ⊥

-- the task writes a report
abbrev pub WritesReport : Task → Type 0
WritesReport (refuting bounds) = Unit {0}
WritesReport (proving bounds) = Unit {0}
WritesReport (trimming report) = Unit {0}
WritesReport _ = ⊥

-- the task carries out the commands of a proof by hand, so that its text ends with a report
abbrev pub IsByHand : Task → Type 0
IsByHand (carrying_out path) = Unit {0}
IsByHand _ = ⊥

-- a call of such a task finished this text for a file of these bytes, if the store tells the bytes and
-- the sink what was appended
pub record FinishedRun (IsOfKind : Task → Type 0) (bytes text : List ℕ) : Type 0 where
  pub words : List (List ℕ)
  pub held : List ℕ → Option (List ℕ)
  pub file : List ℕ
  pub task : Task
  pub asks : Asks words file task
  pub is_of_kind : IsOfKind task
  pub told : held file ≡ Some bytes
  pub before : List ℕ
  pub reads : ℕ
  pub reads' : ℕ
  pub writes : ℕ
  pub writes' : ℕ
  pub status : Status
  pub finished : IsFinished status
  pub means :
      Means words held reads reads' (Some before) (Some (before ++ text)) writes writes' status

-- a call that replays the report on a file of these bytes, if no count of faults rises, answers Done
-- and appends its `yes` line, or it answers want of memory
abbrev pub IsReplayed : List ℕ → List ℕ → Type 0
IsReplayed bytes report =
    (words : List (List ℕ)) (held : List ℕ → Option (List ℕ)) (file name : List ℕ)
    (reads reads' writes writes' : ℕ) (old new : Option (List ℕ)) (status : Status) →
    Asks words file (replaying name) → held file ≡ Some bytes → held name ≡ Some report →
    Means words held reads reads' old new writes writes' status →
    (Rose reads reads' → ⊥) → (Rose writes writes' → ⊥) → status ≢ OutOfMemory →
    (status ≡ Done) × ((claims : List Claim) × Appended old new (yes_line claims))

-- so is each report that a call finished, and the one at the end of what a session wrote
pub record FinishedRunsAreReplayed : Type 0 where
  pub whole :
      (bytes report : List ℕ) → FinishedRun WritesReport bytes report → IsReplayed bytes report
  pub by_hand :
      (bytes text : List ℕ) → FinishedRun IsByHand bytes text →
      (lines : List ℕ) × (report : List ℕ) × (text ≡ lines ++ report) × IsReplayed bytes report
