use Rattle.rule_code.proofs.Homes.{home_added}
use Rattle.rule_code.proofs.left_sides.find_homes.Goals as goal

pub loop-number-preserved : goal.loop-number-preserved
loop-number-preserved c = home_added c.args.patterns.now c.loop-number.number c.find_home.result
    c.loop-number.homes.items c.push.new.self.items c.loop-number.invariant c.find_home.ensures
    c.in_ok-push.ensures.items
