use Rattle.std.proofs.Common.{◌≡◌, ◌≤◌, length, take}
use Rattle.spec_core.specs.Findings.{Clean}
use Rattle.sort_check.specs.GoalTests.{in_turn, left_by, opposite_tests, after_opposite}
use Rattle.sort_check.proofs.walk.Walk.oppose.Given as goal

abbrev pub invariant-loop-raw : goal.invariant-loop-raw
invariant-loop-raw l =
    record {
      few : length l.entries.items ≤ 16;
      clean : Clean (in_turn (opposite_tests l.self.sig.now) (after_opposite l.self.sig.now) l.fn.entries.items
          (take l.raw-index l.raws));
      after : l.entries.items ≡ left_by (after_opposite l.self.sig.now) l.fn.entries.items (take l.raw-index l.raws);
    }
