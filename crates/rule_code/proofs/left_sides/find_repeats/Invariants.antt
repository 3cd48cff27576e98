use Rattle.rule_code.proofs.Homes.{AreRepeatsBelow}
use Rattle.rule_code.proofs.left_sides.find_repeats.Given as goal

abbrev pub invariant-loop-slot : goal.invariant-loop-slot
invariant-loop-slot l = AreRepeatsBelow l.patterns l.homes l.slot l.repeats.items
