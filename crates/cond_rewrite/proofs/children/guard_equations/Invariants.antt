use Rattle.std.proofs.Common.{◌≡◌, map, take}
use Rattle.cond_rewrite.specs.Applied.{applied_guard}
use Rattle.cond_rewrite.proofs.children.guard_equations.Given as goal

abbrev pub invariant-loop-guard : goal.invariant-loop-guard
invariant-loop-guard l = l.made ≡ map (applied_guard l.theta.terms) (take l.guard-index l.guards)
