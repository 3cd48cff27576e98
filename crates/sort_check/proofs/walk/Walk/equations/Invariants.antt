use Rattle.std.proofs.Common.{◌≡◌, ◌≤◌, length, take}
use Rattle.std.specs.List.{AllZip}
use Rattle.spec_core.specs.Findings.{Clean}
use Rattle.sort_check.specs.GoalTests.{in_turn, left_by, sides_tests, after_sides}
use Rattle.sort_check.specs.Over.{IsEquationOver}
use Rattle.sort_check.proofs.walk.Walk.equations.Given as goal

abbrev pub invariant-loop-raw : goal.invariant-loop-raw
invariant-loop-raw l =
    record {
      few : length l.entries.items ≤ 16;
      clean : Clean (in_turn (sides_tests l.self.sig.now) (after_sides l.self.sig.now) l.fn.entries.items
          (take l.raw-index l.raws));
      after : l.entries.items ≡ left_by (after_sides l.self.sig.now) l.fn.entries.items (take l.raw-index l.raws);
      made : AllZip (IsEquationOver l.self.sig.now l.entries.items) (take l.raw-index l.raws) l.made;
    }
