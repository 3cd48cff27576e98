use Rattle.std.proofs.Common.{◌≡◌, map, take}
use Rattle.open_evaluation.specs.Shifted.{shifted_guard}
use Rattle.open_evaluation.proofs.rules.shift_guards.Given as goal

abbrev pub invariant-loop-guard : goal.invariant-loop-guard
invariant-loop-guard l = l.made ≡ map (shifted_guard l.constructors l.constants) (take l.guard-index l.guards)
