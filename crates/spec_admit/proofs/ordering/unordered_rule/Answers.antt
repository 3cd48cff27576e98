use Rattle.std.proofs.Common.{◌≡◌, Some, ap, arith, length}
use Rattle.std.specs.Prelude.{slice_get}
use Rattle.term_core.proofs.Items.{all_at}
use Rattle.spec_core.specs.RuleSizes.{RuleIsWithin}
use Rattle.clause_core.specs.Admitted.{RuleIsOrdered}
use Rattle.spec_admit.specs.Parts.{IsUnorderedPart}
use Rattle.spec_admit.proofs.Earlier.{earlier_all, earlier_more, read_at}
use Rattle.spec_admit.proofs.OrderedParts.{unordered}
use Rattle.spec_admit.proofs.ordering.unordered_rule.Goals as goal
use Rattle.spec_admit.proofs.ordering.unordered_rule.Goals.{After-rule-item}

here : (g : _) (c : After-rule-item g) → slice_get c.args.spec.now.rules c.loop-place.place ≡ Some c.rule-item.result
here g c = read_at c.as_slice-rule-items.result.now c.args.spec.now.rules c.loop-place.place c.rule-item.result
    c.as_slice-rule-items.ensures c.loop-place-test.true c.rule-item.is

pub unordered_part-requires : goal.unordered_part-requires
unordered_part-requires g c =
    let b = (goal.at.unordered_part-requires g c).After-rule-item in
    all_at (RuleIsWithin 4294967295) c.args.spec.now.rules c.requires.small c.loop-place.place
    c.rule-item.result (here g b)

pub returns-in-Some : goal.returns-in-Some
returns-in-Some g c =
    let b = (goal.at.returns-in-Some g c).After-rule-item in
    let above = g.O.TermOrder.above c.args.order.now in
    let part : IsUnorderedPart above c.rule-item.result c.in-Some.part = rw c.in-Some.is at c.in_ok-part.ensures in
    unordered above c.args.spec.now c.loop-place.place c.rule-item.result c.in-Some.part (here g b)
    c.loop-place.invariant part

pub loop-place-preserved : goal.loop-place-preserved
loop-place-preserved g c =
    let b = (goal.at.loop-place-preserved g c).After-rule-item in
    let above = g.O.TermOrder.above c.args.order.now in
    let ordered : RuleIsOrdered above c.rule-item.result = rw c.in_default.is at c.in_ok-part.ensures in
    earlier_more (RuleIsOrdered above) c.args.spec.now.rules c.loop-place.place c.rule-item.result
    c.loop-place.invariant (here g b) ordered

pub returns : goal.returns
returns g c =
    earlier_all (RuleIsOrdered (g.O.TermOrder.above c.args.order.now)) c.args.spec.now.rules c.loop-place.place
    (omega (arith, ap length c.as_slice-rule-items.ensures)) c.loop-place.invariant
