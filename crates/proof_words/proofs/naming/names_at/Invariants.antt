use Rattle.std.proofs.Common.{◌≡◌, ◌++◌, drop}
use Rattle.term_core.specs.Variables.{numbers_of}
use Rattle.proof_words.specs.GoalEvents.{names_at}
use Rattle.proof_words.proofs.naming.names_at.Given as goal

-- with the names that are left all have been found
abbrev pub invariant-loop-number : goal.invariant-loop-number
invariant-loop-number l =
    l.names.items ++ names_at l.vars (numbers_of (drop l.number-index l.numbers))
    ≡ names_at l.vars (numbers_of l.numbers)
