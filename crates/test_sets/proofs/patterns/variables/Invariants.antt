use Rattle.std.proofs.Common.{◌≡◌, ◌-◌, Some, map}
use Rattle.term_core.specs.Tree.{Tree}
use Rattle.clause_core.specs.Instances.{variables}
use Rattle.test_sets.proofs.patterns.variables.Given as goal

abbrev pub invariant-loop-number : goal.invariant-loop-number
invariant-loop-number l = l.terms.items ≡ map (λ (t : Tree). Some t) (variables l.from (l.number - l.from))
