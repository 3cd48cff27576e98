use Rattle.std.proofs.Common.{◌≡◌, take}
use Rattle.spec_core.specs.Findings.{Clean}
use Rattle.sort_check.specs.GoalTests.{inferred_tests}
use Rattle.sort_check.specs.Over.{variables_of}
use Rattle.sort_check.proofs.variables.sorted_variables.Given as goal

abbrev pub invariant-loop-place : goal.invariant-loop-place
invariant-loop-place l =
    record {
      clean : Clean (inferred_tests (take l.place l.entries) (take l.place l.known));
      made : l.vars ≡ variables_of (take l.place l.entries) (take l.place l.known);
    }
