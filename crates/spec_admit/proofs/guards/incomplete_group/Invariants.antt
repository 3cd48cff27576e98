use Rattle.spec_core.specs.declared.records.Rule.{Rule}
use Rattle.spec_core.specs.Groups.{Whole, group}
use Rattle.spec_admit.proofs.Earlier.{Earlier}
use Rattle.spec_admit.proofs.guards.incomplete_group.Given as goal

abbrev pub invariant-loop-place : goal.invariant-loop-place
invariant-loop-place l = Earlier (λ (rule : Rule). Whole (group rule.left 0 l.spec.rules)) l.spec.rules l.place
