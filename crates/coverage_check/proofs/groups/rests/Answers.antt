use Rattle.coverage_check.proofs.GuardLists.{taken, passed, empty_passed, same_by, other_by}
use Rattle.coverage_check.proofs.groups.rests.Goals as goal
use Rattle.coverage_check.proofs.groups.rests.Goals.{in-Some+then-guard-wanted+in_ok-push, in-Some+else-guard-wanted}
use Rattle.coverage_check.proofs.groups.rests.Goals.{in_default}

pub loop-list-preserved : goal.loop-list-preserved
loop-list-preserved c =
    let wanted = c.args.wanted in
    let refs = c.args.lists.now in
    let made = c.loop-list.made.items in
    let i = c.loop-list.list-index in
    let x = c.list-item.result in
    elim c.match-front.branch [
      | in-Some+then-guard-wanted+in_ok-push w ↦
          rw w.made-is (taken wanted refs made _ i x c.loop-list-test.true c.list-item.is c.loop-list.invariant
          w.in-Some.guard.now w.in-Some.rest w.push.new.self.items w.in-Some.ensures
          (same_by _ _ w.if-guard-wanted.true) w.in_ok-push.ensures.items)
      | in-Some+else-guard-wanted w ↦
          rw w.made-is (passed wanted refs made _ i x c.loop-list-test.true c.list-item.is c.loop-list.invariant
          w.in-Some.guard.now w.in-Some.rest.now w.in-Some.ensures (other_by _ _ w.if-guard-wanted.false))
      | in_default w ↦
          rw w.made-is (empty_passed wanted refs made _ i x c.loop-list-test.true c.list-item.is
          c.loop-list.invariant w.in_default.ensures)
    ]
