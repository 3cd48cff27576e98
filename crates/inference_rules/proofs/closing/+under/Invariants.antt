use Rattle.std.proofs.Common.{take}
use Rattle.term_core.specs.Tree.{trees_of}
use Rattle.term_core.specs.Measure.{weight, list_weight}
use Rattle.clause_core.specs.Clashes.{StandsUnderAny}
use Rattle.inference_rules.proofs.closing.+under.Given as goal

abbrev pub decreases-stands_under : goal.decreases-stands_under
decreases-stands_under l = weight l.term.now

abbrev pub decreases-stands_under_any : goal.decreases-stands_under_any
decreases-stands_under_any l = list_weight l.terms.now

abbrev pub invariant-stands_under_any-loop-term : goal.invariant-stands_under_any-loop-term
invariant-stands_under_any-loop-term l = StandsUnderAny l.sig l.var.0 (trees_of (take l.term-index l.terms)) → ⊥
