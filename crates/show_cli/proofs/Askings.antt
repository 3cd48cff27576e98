-- The names that a call asked for.
use Rattle.std.proofs.Common.{◌≡◌, ◌⊎◌, ◌∙◌, ℕ, List, [], ◌∷◌, ◌++◌, Option, ap, sym, inl, inr, append_assoc}
use Rattle.std.proofs.Common.{append-nil}
use Rattle.io_core.specs.Asked.{AddsName}
use Rattle.accepted_spec.specs.Meanings.{IsAccepted}
use Rattle.file_replies.specs.Reads.{AreTextOf}
use Rattle.file_replies.specs.Stops.{AsksFor, AsksForOn}
use Rattle.show_words.specs.Words.{Task, Asks}
use Rattle.show_cli.specs.Ends.{further_files}
use Rattle.show_cli.specs.Runs.{no_file, one_file, all_files, AsksFiles}

module _ (words : List (List ℕ)) (held : List ℕ → Option (List ℕ)) where
  pub asks_no_file : (old new : List (List ℕ)) → new ≡ old → AsksFiles words held old new
  asks_no_file old new same = ([], no_file, same ∙ sym (append-nil old))

  -- the file was asked for, and then those that are read beside it or nothing
  module _ (task : Task) (asks : Asks words task) (old new : List (List ℕ)) where
    pub asked_first : AddsName old new task.file → AsksFiles words held old new
    asked_first added = (task.file ∷ [], one_file task asks, added)

    pub asked_or_not : {B : Type 0} → AddsName old new task.file ⊎ ((new ≡ old) × B) → AsksFiles words held old new
    asked_or_not (inl added) = asked_first added
    asked_or_not (inr none) = asks_no_file old new none.0

  pub asked_all :
      (task : Task) (asks : Asks words task) (old middle new : List (List ℕ)) (bytes : List ℕ) →
      AreTextOf (held task.file) bytes → AddsName old middle task.file →
      AsksForOn bytes (further_files task.view) middle new → AsksFiles words held old new
  asked_all task asks old middle new bytes read added (inl none) =
      asked_first task asks old new (none ∙ added)
  asked_all task asks old middle new bytes read added (inr all) =
      let further = further_files task.view in
      let whole : new ≡ old ++ (task.file ∷ further) =
      all.1 ∙ ap (λ xs. xs ++ further) added
      ∙ append_assoc old (task.file ∷ []) further in
      (task.file ∷ further, all_files task bytes asks read all.0, whole)

-- names that are asked for on an accepted specification are asked for on accepted bytes
pub asked_on :
    (bytes : List ℕ) (names old new : List (List ℕ)) → IsAccepted bytes → AsksFor names old new →
    AsksForOn bytes names old new
asked_on bytes names old new accepted (inl none) = inl none
asked_on bytes names old new accepted (inr all) = inr (accepted, all)
