use Rattle.std.proofs.Common.{◌≡◌, [], map, take}
use Rattle.spec_core.specs.Findings.{Clean, each_after}
use Rattle.sort_check.specs.GoalTests.{bind_tests, bound}
use Rattle.sort_check.proofs.goals.bindings.Given as goal

abbrev pub invariant-loop-place : goal.invariant-loop-place
invariant-loop-place l =
    record {
      clean : Clean (each_after (bind_tests l.sig) [] (take l.place l.raws));
      made : l.entries.items ≡ map (bound l.sig) (take l.place l.raws);
    }
