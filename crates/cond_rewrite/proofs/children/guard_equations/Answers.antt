use Rattle.std.proofs.Common.{arith}
use Rattle.cond_rewrite.proofs.Answered.{at_none}
use Rattle.cond_rewrite.proofs.Sizes.{guard_size}
use Rattle.cond_rewrite.proofs.children.guard_equations.Goals as goal

pub returns-in_default : goal.returns-in_default
returns-in_default c =
    omega (
      arith,
      guard_size c.args.theta.now.terms c.args.guards.now c.loop-guard.guard-index
          c.guard-item.result c.loop-guard-test.true c.guard-item.is,
      at_none c.in_ok-left.field-0 _ _ c.in_default.is c.in_ok-left.ensures,
    )
