-- What a call of the program did, by its status.
use Rattle.std.specs.Prelude.{◌≡◌, ℕ, ◌⊎◌, List, [], ◌∷◌, ◌++◌, Option, codes}
use Rattle.spec_core.specs.declared.records.Spec.{Spec}
use Rattle.spec_grammar.specs.declared.raw.RawSpec.{RawSpec}
use Rattle.io_core.specs.Count.{Rose}
use Rattle.io_core.specs.Piece.{Appended}
use Rattle.accepted_spec.specs.Meanings.{IsAccepted, IsAcceptedAs}
use Rattle.accepted_spec.specs.Refusals.{IsRefusalOf}
use Rattle.file_replies.specs.declared.statuses.Status.{Status}
use Rattle.file_replies.specs.declared.statuses.Status.TheVariants.{Done, Refused, No}
use Rattle.file_replies.specs.declared.statuses.Status.TheVariants.{ReadFault, WriteFault, Usage, OutOfMemory}
use Rattle.file_replies.specs.Parts.{AppendsPartOf}
use Rattle.file_replies.specs.Reads.{AreTextOf, PassesItsLimit}
use Rattle.show_cli.specs.Ends.{IsEnd, IsEndText, further_files}
use Rattle.show_words.specs.Usage.{help_text, usage_line}
use Rattle.show_words.specs.Words.{Task, Asks, AskForHelp, AskNothing}

-- the line for a file that is too long
abbrev pub too_long_line : List ℕ
too_long_line = codes "refused length\n"

module _ (held : List ℕ → Option (List ℕ)) (task : Task) (bytes : List ℕ) where
  -- a text that a task may write for the bytes of its file
  pub data MayWriteFor : List ℕ → Type 0 where
    refusal : {line : List ℕ} → IsRefusalOf bytes line → MayWriteFor line
    on_spec : (raw : RawSpec) (spec : Spec) {text : List ℕ}
        → IsAcceptedAs bytes raw spec → IsEndText held task spec text → MayWriteFor text

  module _ (old new : Option (List ℕ)) where
    -- what is written for the bytes' specification was appended, with this status
    pub record Ended (status : Status) : Type 0 where
      pub raw : RawSpec
      pub spec : Spec
      pub accepted : IsAcceptedAs bytes raw spec
      pub text : List ℕ
      pub is_end : IsEnd held task spec text status
      pub appended : Appended old new text

    -- the line for bytes that aren't accepted was appended, or the one for a goal that isn't there or for a
    -- report that is too long
    abbrev pub RefusedBytes : Type 0
    RefusedBytes =
        ((line : List ℕ) × IsRefusalOf bytes line × Appended old new line) ⊎ Ended Refused

module _ (words : List (List ℕ)) (held : List ℕ → Option (List ℕ)) where
  -- the words ask for a task on a file that isn't too long, and this is so of the task and the bytes
  pub record ReadsFile (Holds : Task → List ℕ → Type 0) : Type 0 where
    pub task : Task
    pub asked : Asks words task
    pub bytes : List ℕ
    pub read : AreTextOf (held task.file) bytes
    pub holds : Holds task bytes

  -- the words ask for a task on a file that is too long
  abbrev pub IsTooLong : Type 0
  IsTooLong = (task : Task) × Asks words task × PassesItsLimit (held task.file)

  -- a text that the program may write for these words and files
  pub data MayWrite : List ℕ → Type 0 where
    usage : AskNothing words → MayWrite usage_line
    help : AskForHelp words → MayWrite help_text
    too_long : IsTooLong → MayWrite too_long_line
    for_file : {text : List ℕ}
        → ReadsFile (λ task bytes. MayWriteFor held task bytes text) → MayWrite text

  -- what was appended, and which count rose, by the status
  abbrev pub Means : ℕ → ℕ → Option (List ℕ) → Option (List ℕ) → ℕ → ℕ → Status → Type 0
  Means reads reads' old new writes writes' Done =
      ReadsFile (λ task bytes. Ended held task bytes old new Done)
      ⊎ (AskForHelp words × Appended old new help_text)
  Means reads reads' old new writes writes' Refused =
      (IsTooLong × Appended old new too_long_line)
      ⊎ ReadsFile (λ task bytes. RefusedBytes held task bytes old new)
  Means reads reads' old new writes writes' No =
      ReadsFile (λ task bytes. Ended held task bytes old new No)
  Means reads reads' old new writes writes' ReadFault =
      ((task : Task) × Asks words task) × Rose reads reads' × (new ≡ old)
  Means reads reads' old new writes writes' WriteFault =
      Rose writes writes' × AppendsPartOf MayWrite old new
  Means reads reads' old new writes writes' Usage = AskNothing words × Appended old new usage_line
  Means reads reads' old new writes writes' OutOfMemory = AppendsPartOf MayWrite old new
  Means reads reads' old new writes writes' _ = ⊥

  -- the names that a call asks for, in their order: none; the file; or the file and those that are read
  -- beside it, if the file's text is accepted
  pub data AreAsked : List (List ℕ) → Type 0 where
    no_file : AreAsked []
    one_file : (task : Task) → Asks words task → AreAsked (task.file ∷ [])
    all_files : (task : Task) (bytes : List ℕ) → Asks words task
        → AreTextOf (held task.file) bytes → IsAccepted bytes
        → AreAsked (task.file ∷ further_files task.view)

  -- such names were added to those that were asked for before
  abbrev pub AsksFiles : List (List ℕ) → List (List ℕ) → Type 0
  AsksFiles old new = (names : List (List ℕ)) × AreAsked names × (new ≡ old ++ names)
