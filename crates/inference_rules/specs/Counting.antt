-- The limit of nodes.
use Rattle.std.specs.Prelude.{◌≡◌, ◌⊎◌, ℕ, ◌+◌, ◌<◌, ◌≤◌, Result, Ok, Err, length}
use Rattle.clause_core.specs.declared.answers.Children.{Children}
use Rattle.clause_core.specs.declared.answers.Why.TheVariants.{Limit}
use Rattle.inference_rules.specs.declared.nodes.StepError.{StepError}
use Rattle.inference_rules.specs.declared.nodes.StepError.TheVariants.{Why}

-- the first answer if this many nodes come before the children that it makes, which is the limit
-- if there are more than 10,000 nodes then
abbrev pub IsCounted : ℕ → Result Children StepError → Result Children StepError → Type 0
IsCounted count (Ok made) answer =
    ((count + length made.clauses ≤ 10000) × (answer ≡ Ok made))
    ⊎ ((10000 < count + length made.clauses) × (answer ≡ Err (Why Limit)))
IsCounted count (Err error) answer = answer ≡ Err error
