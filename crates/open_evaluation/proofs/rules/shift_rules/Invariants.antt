use Rattle.std.proofs.Common.{◌≡◌, map, take}
use Rattle.open_evaluation.specs.Shifted.{shifted_rule}
use Rattle.open_evaluation.proofs.rules.shift_rules.Given as goal

abbrev pub invariant-loop-rule : goal.invariant-loop-rule
invariant-loop-rule l = l.made ≡ map (shifted_rule l.constructors l.constants) (take l.rule-index l.rules)
