-- What the program answers for one report on a file and on the file that `upgrade` makes of it.
use Rattle.std.specs.Prelude.{◌≡◌, ◌≢◌, ◌≤◌, ℕ, List, ◌++◌, Option, Some, length}
use Rattle.io_core.specs.Count.{Rose}
use Rattle.spec_core.specs.declared.records.Spec.{Spec}
use Rattle.spec_grammar.specs.declared.raw.RawSpec.{RawSpec}
use Rattle.spec_printing.specs.Printed.{printed}
use Rattle.spec_printing.specs.Upgraded.{upgraded}
use Rattle.accepted_spec.specs.Meanings.{IsAcceptedAs}
use Rattle.command_line.specs.Tasks.{replaying, Asks}
use Rattle.file_replies.specs.declared.statuses.Status.{Status}
use Rattle.file_replies.specs.declared.statuses.Status.TheVariants.{OutOfMemory}
use Rattle.spike_cli.specs.Runs.{Means}

-- a call that replays this report on a file of these bytes, if no count of faults rises and
-- memory suffices, appends this text and answers this status
pub record ReplayRun (bytes report text : List ℕ) (status : Status) : Type 0 where
  pub words : List (List ℕ)
  pub held : List ℕ → Option (List ℕ)
  pub file : List ℕ
  pub name : List ℕ
  pub asks : Asks words file (replaying name)
  pub told : held file ≡ Some bytes
  pub told_report : held name ≡ Some report
  pub before : List ℕ
  pub reads : ℕ
  pub reads' : ℕ
  pub writes : ℕ
  pub writes' : ℕ
  pub means :
      Means words held reads reads' (Some before) (Some (before ++ text)) writes writes' status
  pub all_read : Rose reads reads' → ⊥
  pub all_written : Rose writes writes' → ⊥
  pub enough_memory : status ≢ OutOfMemory

-- if the file has no more bytes than format 1 allows, both calls append one text and answer one
-- status
abbrev pub UpgradedRunsAnswerTheSame : Type 0
UpgradedRunsAnswerTheSame =
    (bytes report : List ℕ) (raw : RawSpec) (spec : Spec)
    → IsAcceptedAs bytes raw spec → length bytes ≤ 1048576
    → (text other : List ℕ) (status again : Status)
    → ReplayRun bytes report text status
    → ReplayRun (printed (upgraded raw)) report other again
    → (text ≡ other) × (status ≡ again)
