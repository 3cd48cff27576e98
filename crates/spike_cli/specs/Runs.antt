-- What a call of the program did, by its status.
use Rattle.std.specs.Prelude.{◌≡◌, ℕ, ◌⊎◌, List, [], ◌∷◌, ◌++◌, Option, codes}
use Rattle.spec_core.specs.declared.records.Spec.{Spec}
use Rattle.spec_grammar.specs.declared.raw.RawSpec.{RawSpec}
use Rattle.io_core.specs.Count.{Rose}
use Rattle.io_core.specs.Piece.{Appended}
use Rattle.file_replies.specs.declared.statuses.Status.{Status}
use Rattle.file_replies.specs.declared.statuses.Status.TheVariants.{Done, Refuted, Open, Refused, No}
use Rattle.file_replies.specs.declared.statuses.Status.TheVariants.{ReadFault, WriteFault, Usage, OutOfMemory}
use Rattle.file_replies.specs.Parts.{AppendsPartOf}
use Rattle.command_line.specs.Tasks.{Task, checking, refuting, proving, evaluating, replaying, upgrading}
use Rattle.command_line.specs.Tasks.{trimming, carrying_out, Asks, AsksToLoad, AskNothing}
use Rattle.command_line.specs.Usage.{usage_line}
use Rattle.file_replies.specs.Reads.{AreTextOf, PassesItsLimit}
use Rattle.accepted_spec.specs.Meanings.{IsAccepted, IsAcceptedAs}
use Rattle.accepted_spec.specs.Refusals.{IsRefusalOf}
use Rattle.spike_cli.specs.Checks.{check_text, IsCheck}
use Rattle.spike_cli.specs.Reports.{BeginsReport, IsReport, search_alone}
use Rattle.spike_cli.specs.Evaluations.{IsEvaluation, IsEvaluationText}
use Rattle.spike_cli.specs.Replays.{IsFileReplay, IsFileReplayText}
use Rattle.spike_cli.specs.Trims.{IsFileTrim, IsFileTrimText}
use Rattle.spike_cli.specs.Sessions.{IsFileSession, IsSomeFileSession}
use Rattle.spike_cli.specs.Loads.{IsLoad}
use Rattle.spike_cli.specs.Upgrades.{IsUpgrade}
use Rattle.spec_printing.specs.Printed.{printed}
use Rattle.spec_printing.specs.Upgraded.{upgraded}

-- the line for a file that is too long
abbrev pub too_long_line : List ℕ
too_long_line = codes "refused length\n"

-- the files that a task reads beside its own
abbrev pub further_files : Task → List (List ℕ)
further_files (replaying report) = report ∷ []
further_files (trimming report) = report ∷ []
further_files (carrying_out path) = path ∷ []
further_files _ = []

module _ (held : List ℕ → Option (List ℕ)) where
  -- the whole text of a task on a specification, and its status
  abbrev pub IsEnd : Task → RawSpec → Spec → List ℕ → Status → Type 0
  IsEnd (checking print) raw spec text status = IsCheck print raw text status
  IsEnd (refuting search) raw spec text status = IsReport (search_alone search) spec text status
  IsEnd (proving bounds) raw spec text status = IsReport bounds spec text status
  IsEnd (evaluating term steps) raw spec text status = IsEvaluation spec term steps text status
  IsEnd (replaying report) raw spec text status = IsFileReplay spec (held report) text status
  IsEnd upgrading raw spec text status = IsUpgrade raw text status
  IsEnd (trimming report) raw spec text status = IsFileTrim spec (held report) text status
  IsEnd (carrying_out path) raw spec text status = IsFileSession spec (held path) text status

  -- a text that a task may write on a specification: what a report begins with, or the whole text
  -- of another task
  abbrev pub MayWriteOn : Task → RawSpec → Spec → List ℕ → Type 0
  MayWriteOn (checking print) raw spec text = text ≡ check_text print raw
  MayWriteOn (refuting search) raw spec text = BeginsReport (search_alone search) spec text
  MayWriteOn (proving bounds) raw spec text = BeginsReport bounds spec text
  MayWriteOn (evaluating term steps) raw spec text = IsEvaluationText spec term steps text
  MayWriteOn (replaying report) raw spec text = IsFileReplayText spec (held report) text
  MayWriteOn upgrading raw spec text = text ≡ printed (upgraded raw)
  MayWriteOn (trimming report) raw spec text = IsFileTrimText spec (held report) text
  MayWriteOn (carrying_out path) raw spec text = IsSomeFileSession spec (held path) text

  module _ (task : Task) (bytes : List ℕ) where
    -- a text that a task may write for the bytes of its file
    pub data MayWriteFor : List ℕ → Type 0 where
      refusal : {line : List ℕ} → IsRefusalOf bytes line → MayWriteFor line
      on_spec : (raw : RawSpec) (spec : Spec) {text : List ℕ}
          → IsAcceptedAs bytes raw spec → MayWriteOn task raw spec text → MayWriteFor text

    module _ (old new : Option (List ℕ)) where
      -- the task's whole text on the bytes' specification was appended, with this status
      pub record Ended (status : Status) : Type 0 where
        pub raw : RawSpec
        pub spec : Spec
        pub accepted : IsAcceptedAs bytes raw spec
        pub text : List ℕ
        pub is_end : IsEnd task raw spec text status
        pub appended : Appended old new text

      -- the line for bytes that aren't accepted was appended, or the one that the task writes
      abbrev pub RefusedBytes : Type 0
      RefusedBytes =
          ((line : List ℕ) × IsRefusalOf bytes line × Appended old new line) ⊎ Ended Refused

module _ (words : List (List ℕ)) (held : List ℕ → Option (List ℕ)) where
  -- the words ask for a task on a file that isn't too long, and this is so of the task and the bytes
  pub record ReadsFile (Holds : Task → List ℕ → Type 0) : Type 0 where
    pub file : List ℕ
    pub task : Task
    pub asked : Asks words file task
    pub bytes : List ℕ
    pub read : AreTextOf (held file) bytes
    pub holds : Holds task bytes

  -- the words ask for a file that is too long
  abbrev pub IsTooLong : Type 0
  IsTooLong =
      (file : List ℕ) × (task : Task) × Asks words file task × PassesItsLimit (held file)

  -- a text that the program may write for these words and files
  pub data MayWrite : List ℕ → Type 0 where
    usage : AskNothing words → MayWrite usage_line
    too_long : IsTooLong → MayWrite too_long_line
    for_load : (goals : ℕ) {text : List ℕ} → AsksToLoad words goals → IsLoad goals text
        → MayWrite text
    for_file : {text : List ℕ}
        → ReadsFile (λ task bytes. MayWriteFor held task bytes text) → MayWrite text

  -- the line for a file that is too long, or the one for its text or for the term
  abbrev pub RefusedCall : Option (List ℕ) → Option (List ℕ) → Type 0
  RefusedCall old new =
      (IsTooLong × Appended old new too_long_line)
      ⊎ ReadsFile (λ task bytes. RefusedBytes held task bytes old new)

  -- the words ask for generated goals, and what is written of them was appended
  abbrev pub Loaded : Option (List ℕ) → Option (List ℕ) → Type 0
  Loaded old new =
      (goals : ℕ) × AsksToLoad words goals
      × (text : List ℕ) × IsLoad goals text × Appended old new text

  -- what was appended, and which count rose, by the status
  abbrev pub Means : ℕ → ℕ → Option (List ℕ) → Option (List ℕ) → ℕ → ℕ → Status → Type 0
  Means reads reads' old new writes writes' Done =
      ReadsFile (λ task bytes. Ended held task bytes old new Done) ⊎ Loaded old new
  Means reads reads' old new writes writes' Refuted =
      ReadsFile (λ task bytes. Ended held task bytes old new Refuted)
  Means reads reads' old new writes writes' Open =
      ReadsFile (λ task bytes. Ended held task bytes old new Open)
  Means reads reads' old new writes writes' Refused = RefusedCall old new
  Means reads reads' old new writes writes' No =
      ReadsFile (λ task bytes. Ended held task bytes old new No)
  Means reads reads' old new writes writes' ReadFault =
      ((file : List ℕ) × (task : Task) × Asks words file task) × Rose reads reads' × (new ≡ old)
  Means reads reads' old new writes writes' WriteFault =
      Rose writes writes' × AppendsPartOf MayWrite old new
  Means reads reads' old new writes writes' Usage = AskNothing words × Appended old new usage_line
  Means reads reads' old new writes writes' OutOfMemory = AppendsPartOf MayWrite old new

  -- the names that a call asks for, in their order: none; the file of a task; or the file and those
  -- that the task reads beside it, if the file's text is accepted
  pub data AreAsked : List (List ℕ) → Type 0 where
    no_file : AreAsked []
    one_file : (file : List ℕ) (task : Task) → Asks words file task → AreAsked (file ∷ [])
    all_files : (file : List ℕ) (task : Task) (bytes : List ℕ) → Asks words file task
        → AreTextOf (held file) bytes → IsAccepted bytes
        → AreAsked (file ∷ further_files task)

  -- such names were added to those that were asked for before
  abbrev pub AsksFiles : List (List ℕ) → List (List ℕ) → Type 0
  AsksFiles old new = (names : List (List ℕ)) × AreAsked names × (new ≡ old ++ names)
