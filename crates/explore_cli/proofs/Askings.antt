-- The names that a call asked for.
use Rattle.std.proofs.Common.{◌≡◌, ◌⊎◌, ◌∙◌, List, [], ◌∷◌, ℕ, sym, inl, inr}
use Rattle.std.proofs.Common.{append-nil}
use Rattle.io_core.specs.Asked.{AddsName}
use Rattle.explore_words.specs.Words.{Task, Asks}
use Rattle.explore_cli.specs.Runs.{no_file, one_file, AsksFiles}

module _ (words : List (List ℕ)) where
  pub asks_no_file : (old new : List (List ℕ)) → new ≡ old → AsksFiles words old new
  asks_no_file old new same = ([], no_file, same ∙ sym (append-nil old))

  -- the file was asked for, or nothing
  module _ (task : Task) (asks : Asks words task) (old new : List (List ℕ)) where
    pub asked_file : AddsName old new task.file → AsksFiles words old new
    asked_file added = (task.file ∷ [], one_file task asks, added)

    pub asked_or_not : {B : Type 0} → AddsName old new task.file ⊎ ((new ≡ old) × B) → AsksFiles words old new
    asked_or_not (inl added) = asked_file added
    asked_or_not (inr none) = asks_no_file old new none.0
