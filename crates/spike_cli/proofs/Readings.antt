-- What a command did that reads another file, and the names that were asked for.
use Rattle.std.proofs.Common.{◌≡◌, ◌⊎◌, ◌∙◌, ℕ, List, [], ◌∷◌, ◌++◌, Option, ap, sym, subst, inl}
use Rattle.std.proofs.Common.{inr, append_assoc, append-nil}
use Rattle.std.specs.Prelude.{Result}
use Rattle.io_core.specs.Asked.{AddsName}
use Rattle.spec_core.specs.declared.records.Spec.{Spec}
use Rattle.spec_grammar.specs.declared.raw.RawSpec.{RawSpec}
use Rattle.command_line.specs.Commands.{task_of}
use Rattle.command_line.specs.Tasks.{Task, Asks}
use Rattle.command_line.specs.declared.commands.Command.{Command}
use Rattle.file_replies.specs.Reads.{AreTextOf}
use Rattle.file_replies.specs.Stops.{AsksForOn, FinishesReading}
use Rattle.file_replies.specs.declared.statuses.Status.{Status}
use Rattle.file_replies.specs.declared.stops.Stop.{Stop}
use Rattle.spike_cli.specs.Runs.{AreAsked, no_file, one_file, all_files, further_files, AsksFiles, IsEnd}
use Rattle.spike_cli.specs.Runs.{MayWriteOn}

-- what a command did, if it is this one
pub of_command :
    (held : List ℕ → Option (List ℕ)) (raw : RawSpec) (spec : Spec) (command other : Command) →
    command ≡ other → (old new : Option (List ℕ)) (writes writes' reads reads' : ℕ)
    (result : Result Status Stop) →
    FinishesReading old new writes writes' reads reads' (IsEnd held (task_of other) raw spec)
    (MayWriteOn held (task_of other) raw spec) result →
    FinishesReading old new writes writes' reads reads' (IsEnd held (task_of command) raw spec)
    (MayWriteOn held (task_of command) raw spec) result
of_command held raw spec command other is old new writes writes' reads reads' result finishes =
    subst (λ (k : Command). FinishesReading old new writes writes' reads reads'
    (IsEnd held (task_of k) raw spec) (MayWriteOn held (task_of k) raw spec) result)
    (sym is) finishes

module _ (words : List (List ℕ)) (held : List ℕ → Option (List ℕ)) where
  pub asks_no_file : (old new : List (List ℕ)) → new ≡ old → AsksFiles words held old new
  asks_no_file old new same = ([], no_file, same ∙ sym (append-nil old))

  -- the file was asked for, and then the further ones or none
  module _ (file : List ℕ) (task : Task) (asks : Asks words file task) (old new : List (List ℕ)) where
    pub asked_first : AddsName old new file → AsksFiles words held old new
    asked_first added = (file ∷ [], one_file file task asks, added)

    pub asked_or_not : {B : Type 0} → AddsName old new file ⊎ ((new ≡ old) × B) → AsksFiles words held old new
    asked_or_not (inl added) = asked_first added
    asked_or_not (inr none) = asks_no_file old new none.0

  pub asked_further :
      (file : List ℕ) (task : Task) (asks : Asks words file task) (old middle new : List (List ℕ)) (bytes : List ℕ) →
      AreTextOf (held file) bytes → AddsName old middle file →
      AsksForOn bytes (further_files task) middle new → AsksFiles words held old new
  asked_further file task asks old middle new bytes read added (inl none) = asked_first file task asks old new
      (none ∙ added)
  asked_further file task asks old middle new bytes read added (inr all) =
      let whole : new ≡ old ++ (file ∷ further_files task) =
      all.1 ∙ ap (λ xs. xs ++ further_files task) added ∙ append_assoc old (file ∷ []) (further_files task) in
      (file ∷ further_files task, all_files file task bytes asks read all.0, whole)
