-- Each variable so far is there.
use Rattle.std.proofs.Common.{ℕ, ◌<◌, [], ◌∷◌}
use Rattle.term_core.specs.Tree.{trees_of}
use Rattle.term_core.specs.Variables.{OccursAny}
use Rattle.fitting_lists.proofs.occurring.has_all_variables.Given as goal

abbrev pub invariant-loop-number : goal.invariant-loop-number
invariant-loop-number l = (n : ℕ) → n < l.number → OccursAny n (trees_of (l.term ∷ []))
