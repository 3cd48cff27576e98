use Rattle.rule_code.specs.Homes.{AreHomes}
use Rattle.rule_code.proofs.left_sides.find_homes.Given as goal

abbrev pub invariant-loop-number : goal.invariant-loop-number
invariant-loop-number l = AreHomes l.patterns l.number l.homes.items
