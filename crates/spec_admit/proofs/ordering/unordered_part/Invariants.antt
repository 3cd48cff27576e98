use Rattle.clause_core.specs.Admitted.{GuardIsOrdered}
use Rattle.spec_admit.proofs.Earlier.{Earlier}
use Rattle.spec_admit.proofs.ordering.unordered_part.Given as goal

abbrev pub invariant-loop-place : goal.invariant-loop-place
invariant-loop-place g l = Earlier (GuardIsOrdered (g.O.TermOrder.above l.order) l.rule.left) l.rule.guards l.place
