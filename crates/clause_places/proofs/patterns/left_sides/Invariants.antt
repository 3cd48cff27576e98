use Rattle.std.proofs.Common.{◌≡◌, take}
use Rattle.clause_places.specs.Demand.{left_sides_of}
use Rattle.clause_places.proofs.patterns.left_sides.Given as goal

abbrev pub invariant-loop-rule : goal.invariant-loop-rule
invariant-loop-rule l = l.made ≡ left_sides_of (take l.rule-index l.rules) l.function.0
