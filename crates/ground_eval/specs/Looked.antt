-- The most cells that verdicts of a goal add to a bank.
use Rattle.std.specs.Prelude.{ℕ, suc, ◌+◌, ◌*◌, ◌^◌, length}
use Rattle.rule_code.specs.Lengths.{rules_length}
use Rattle.rule_code.specs.Programs.{Program}
use Rattle.bank_machine.specs.Fuel.{most_guards, most_added}
use Rattle.ground_eval.specs.Opened.{Partial}
use Rattle.ground_eval.specs.Prepared.{goal_length}

-- if this many equations are compared, each of which has two sides
unfoldable pub most_compared : Program → ℕ → ℕ → ℕ
most_compared p count budget = count * (2 * most_added p budget)

-- if one side is evaluated: as in most_added, with the most instructions that the rules and the goal's sides can have
unfoldable pub most_run : Partial → ℕ → ℕ
most_run g budget = suc budget * (suc (rules_length g.spec.rules + goal_length g.goal) * suc
    (most_guards g.spec.rules))

-- if the goal is evaluated once, with both sides of all its equations
unfoldable pub most_evaluated : Partial → ℕ → ℕ
most_evaluated g budget =
    (length g.goal.premises + length g.goal.conclusions) * (2 * most_run g budget)

-- if this many variables have no value: each has at most two values in turn, so the goal is evaluated at most 2 ^ count
-- times, and fewer than twice as many cells are added for these values
unfoldable pub most_over : Partial → ℕ → ℕ → ℕ
most_over g count budget = 2 ^ count * (2 + most_evaluated g budget)

-- whichever of the goal's variables have values
unfoldable pub most_looked : Partial → ℕ → ℕ
most_looked g budget = 2 ^ length g.goal.vars * (2 + most_evaluated g budget)
