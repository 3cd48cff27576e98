-- What the definitions lead to.
use Rattle.std.specs.Prelude.{◌≡◌, List}
use Rattle.clap.specs.Words.{Text}
use Rattle.show_words.specs.Words.{Task, Asks, AskForHelp, AskNothing}

-- words ask for one task at most, and those that do ask for no help and not for nothing
pub record OneRequest : Type 0 where
  pub one_task : (words : List Text) (task other : Task) → Asks words task → Asks words other → task ≡ other
  pub no_help : (words : List Text) (task : Task) → Asks words task → AskForHelp words → ⊥
  pub not_nothing : (words : List Text) (task : Task) → Asks words task → AskNothing words → ⊥
