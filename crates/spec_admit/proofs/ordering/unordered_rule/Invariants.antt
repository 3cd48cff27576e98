use Rattle.clause_core.specs.Admitted.{RuleIsOrdered}
use Rattle.spec_admit.proofs.Earlier.{Earlier}
use Rattle.spec_admit.proofs.ordering.unordered_rule.Given as goal

abbrev pub invariant-loop-place : goal.invariant-loop-place
invariant-loop-place g l = Earlier (RuleIsOrdered (g.O.TermOrder.above l.order)) l.spec.rules l.place
