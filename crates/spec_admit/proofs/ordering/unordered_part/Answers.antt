use Rattle.std.proofs.Common.{◌≡◌, Some, ap, sym, subst, refl, arith, length}
use Rattle.std.specs.Prelude.{slice_get}
use Rattle.clause_core.specs.Admitted.{GuardIsOrdered}
use Rattle.spec_admit.specs.Parts.{IsUnorderedPart}
use Rattle.spec_admit.proofs.Earlier.{earlier_more, read_at}
use Rattle.spec_admit.proofs.OrderedParts.{ordered, guard_unordered}
use Rattle.spec_admit.proofs.ordering.unordered_part.Goals as goal
use Rattle.spec_admit.proofs.ordering.unordered_part.Goals.{After-guard-item}

here : (g : _) (c : After-guard-item g) → slice_get c.args.rule.now.guards c.loop-place.place ≡ Some c.guard-item.result
here g c = read_at c.as_slice-guard-items.result.now c.args.rule.now.guards c.loop-place.place
    c.guard-item.result c.as_slice-guard-items.ensures c.loop-place-test.true c.guard-item.is

pub returns-then-not-is_below : goal.returns-then-not-is_below
returns-then-not-is_below g c =
    let b = (goal.at.returns-then-not-is_below g c).After-guard-item in
    let above = g.O.TermOrder.above c.args.order.now in
    let rule = c.args.rule.now in
    let not : GuardIsOrdered above rule.left c.guard-item.result →
    ⊥ = rw c.if-not-is_below.true at c.is_below.ensures in
    subst (IsUnorderedPart above rule) (sym c.in_ok-guard_number.ensures)
    (guard_unordered above rule (c.if-not-greater.ensures.sound refl) c.loop-place.place c.guard-item.result
    (here g b) c.loop-place.invariant not)

pub loop-place-preserved : goal.loop-place-preserved
loop-place-preserved g c =
    let b = (goal.at.loop-place-preserved g c).After-guard-item in
    let above = g.O.TermOrder.above c.args.order.now in
    let rule = c.args.rule.now in
    let below : GuardIsOrdered above rule.left c.guard-item.result = c.if-not-is_below.ensures in
    earlier_more (GuardIsOrdered above rule.left) rule.guards c.loop-place.place c.guard-item.result
    c.loop-place.invariant (here g b) below

pub returns : goal.returns
returns g c =
    ordered (g.O.TermOrder.above c.args.order.now) c.args.rule.now (c.if-not-greater.ensures.sound refl)
    c.loop-place.place (omega (arith, ap length c.as_slice-guard-items.ensures)) c.loop-place.invariant
