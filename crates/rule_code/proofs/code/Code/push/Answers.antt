use Rattle.std.proofs.Common.{refl, arith}
use Rattle.rule_code.proofs.Kept.{instructions_kept, range_more, instructions_more, on_err}
use Rattle.rule_code.proofs.code.Code.push.Goals as goal

pub returns-in_err-push-clause-kept : goal.returns-in_err-push-clause-kept
returns-in_err-push-clause-kept c = on_err c.from_residual-in_err-push.result _
    (rw (c.in_err-push.ensures.items, c.in_ok-extend_from_slice.ensures.items, ← c.self.view_is)
    (instructions_kept c.self.inside.ops.items c.self.inside.operands.items c.args.slots.now c.self.invariant))

pub invariant_of-self-2 : goal.invariant_of-self-2
invariant_of-self-2 c = rw (c.in_ok-push.ensures.items, c.in_ok-extend_from_slice.ensures.items)
    (range_more c.self.inside.ops.items c.self.inside.operands.items c.args.slots.now _ c.self.invariant
    (omega (arith, c.len-start.ensures)) refl)

pub returns-clause-added : goal.returns-clause-added
returns-clause-added c = rw (
  c.in_ok-push.ensures.items,
  c.in_ok-extend_from_slice.ensures.items,
  ← c.self.view_is,
) (instructions_more c.self.inside.ops.items c.self.inside.operands.items c.args.slots.now _
    c.self.invariant (omega (arith, c.len-start.ensures)) refl)
