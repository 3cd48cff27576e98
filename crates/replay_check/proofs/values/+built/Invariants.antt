use Rattle.std.proofs.Common.{take}
use Rattle.term_core.specs.Tree.{trees_of}
use Rattle.term_core.specs.Measure.{weight, list_weight}
use Rattle.spec_core.specs.Sorts.{AreBuilt}
use Rattle.replay_check.proofs.values.+built.Given as goal

abbrev pub decreases-is_built : goal.decreases-is_built
decreases-is_built l = weight l.term.now

abbrev pub decreases-are_built : goal.decreases-are_built
decreases-are_built l = list_weight l.terms.now

abbrev pub invariant-are_built-loop-term : goal.invariant-are_built-loop-term
invariant-are_built-loop-term l = AreBuilt l.sig (trees_of (take l.term-index l.terms))
