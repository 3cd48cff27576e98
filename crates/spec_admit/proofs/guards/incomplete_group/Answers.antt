use Rattle.std.proofs.Common.{◌≡◌, Some, ap, arith, length}
use Rattle.std.specs.Prelude.{slice_get}
use Rattle.spec_admit.proofs.Earlier.{earlier_all, earlier_more, read_at}
use Rattle.spec_admit.proofs.WholeGroups.{HasWholeGroup, seen_before, first_gap}
use Rattle.spec_admit.proofs.guards.incomplete_group.Goals as goal
use Rattle.spec_admit.proofs.guards.incomplete_group.Goals.{After-index-rules-place}
use Rattle.spec_admit.proofs.guards.incomplete_group.Goals.{else-not-some_has_left-via-then-not-some_has_left+in_ok-is_whole+else-not-branch}
use Rattle.spec_admit.proofs.guards.incomplete_group.Goals.{else-not-some_has_left-via-else-not-some_has_left}

here : (c : After-index-rules-place) →
    slice_get c.args.spec.now.rules c.loop-place.place ≡ Some c.index-rules-place.result
here c = read_at c.as_slice-rules.result.now c.args.spec.now.rules c.loop-place.place c.index-rules-place.result
    c.as_slice-rules.ensures c.loop-place-test.true c.index-rules-place.is

pub returns-then-not-branch : goal.returns-then-not-branch
returns-then-not-branch c =
    let b = (goal.at.returns-then-not-branch c).After-index-rules-place in
    let gap = rw c.if-not-branch.true at c.in_ok-is_whole.ensures in
    first_gap c.args.spec.now c.loop-place.place c.index-rules-place.result c.loop-place.invariant (here b) gap

pub loop-place-preserved : goal.loop-place-preserved
loop-place-preserved c =
    let b = (goal.at.loop-place-preserved c).After-index-rules-place in
    let spec = c.args.spec.now in
    let rule = c.index-rules-place.result in
    let whole : HasWholeGroup spec rule =
    elim c.else-not-some_has_left.branch [
      | else-not-some_has_left-via-then-not-some_has_left+in_ok-is_whole+else-not-branch w ↦
          rw w.if-not-branch.false at w.in_ok-is_whole.ensures
      | else-not-some_has_left-via-else-not-some_has_left w ↦ seen_before spec c.loop-place.place rule
          c.loop-place.invariant c.as_slice-rules.result.now c.as_slice-rules.ensures
          (c.some_has_left.ensures.0 w.if-not-some_has_left.false)
    ] in
    earlier_more (HasWholeGroup spec) spec.rules c.loop-place.place rule c.loop-place.invariant (here b) whole

pub returns : goal.returns
returns c = earlier_all (HasWholeGroup c.args.spec.now) c.args.spec.now.rules c.loop-place.place
    (omega (arith, ap length c.as_slice-rules.ensures)) c.loop-place.invariant
