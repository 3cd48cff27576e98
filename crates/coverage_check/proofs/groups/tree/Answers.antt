use Rattle.coverage_check.specs.GroupTree.{numbered_guards}
use Rattle.coverage_check.specs.GuardLists.{lists_of}
use Rattle.coverage_check.proofs.GuardLists.{rule_met, all_met, numbers_whole}
use Rattle.coverage_check.proofs.groups.tree.Goals as goal

pub loop-number-preserved : goal.loop-number-preserved
loop-number-preserved c =
    rule_met c.args.spec.now c.args.group.now _ c.loop-number.number-index c.as_slice-rules.result.now
    c.index-rules-number.result c.loop-number.lists.items c.push.new.self.items c.as_slice.result
    c.loop-number-test.true c.requires c.as_slice-rules.ensures c.index-rules-number.is c.as_slice.ensures
    c.in_ok-push.ensures.items c.loop-number.invariant

pub returns-then-branch : goal.returns-then-branch
returns-then-branch c =
    let e = all_met c.args.spec.now c.args.group.now c.loop-number.number-index c.loop-number.lists.items
    c.deref.result.now c.loop-number-test.false c.deref.ensures.value c.loop-number.invariant in
    (numbers_whole (numbered_guards c.args.spec.now c.args.group.now) (lists_of c.deref.result.now) e).0
    (c.in_ok-are_whole.ensures.0 c.if-branch.true)

pub returns : goal.returns
returns c =
    let e = all_met c.args.spec.now c.args.group.now c.loop-number.number-index c.loop-number.lists.items
    c.deref.result.now c.loop-number-test.false c.deref.ensures.value c.loop-number.invariant in
    λ w. let q = c.in_ok-are_whole.ensures.1
    ((numbers_whole (numbered_guards c.args.spec.now c.args.group.now) (lists_of c.deref.result.now) e).1 w) in cc
