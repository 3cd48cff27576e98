-- What the definitions lead to.
use Rattle.std.specs.Prelude.{◌≡◌, ℕ, List}
use Rattle.command_line.specs.Tasks.{Task, Asks, AsksToLoad, AskNothing}

-- words ask for one task on one file at most, or for one number of goals, and never for both; those
-- that ask for nothing ask for neither
pub record OneRequest : Type 0 where
  pub one_task : (words : List (List ℕ)) (file other : List ℕ) (task another : Task)
      → Asks words file task → Asks words other another → (file ≡ other) × (task ≡ another)
  pub one_number : (words : List (List ℕ)) (goals others : ℕ)
      → AsksToLoad words goals → AsksToLoad words others → goals ≡ others
  pub not_both : (words : List (List ℕ)) (file : List ℕ) (task : Task) (goals : ℕ)
      → Asks words file task → AsksToLoad words goals → ⊥
  pub no_task : (words : List (List ℕ)) (file : List ℕ) (task : Task)
      → AskNothing words → Asks words file task → ⊥
  pub no_load : (words : List (List ℕ)) (goals : ℕ)
      → AskNothing words → AsksToLoad words goals → ⊥
