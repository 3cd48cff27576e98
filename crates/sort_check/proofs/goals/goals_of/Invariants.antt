use Rattle.std.proofs.Common.{[], take}
use Rattle.std.specs.List.{AllZip}
use Rattle.spec_core.specs.Findings.{Clean, each_after}
use Rattle.sort_check.specs.GoalTests.{goal_tests}
use Rattle.sort_check.specs.Goals.{GoalStands}
use Rattle.sort_check.proofs.goals.goals_of.Given as goal

abbrev pub invariant-loop-place : goal.invariant-loop-place
invariant-loop-place l =
    record {
      clean : Clean (each_after (goal_tests l.sig) [] (take l.place l.raws));
      made : AllZip (GoalStands l.sig) (take l.place l.raws) l.made;
    }
