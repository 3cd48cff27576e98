use Rattle.std.proofs.Common.{◌≡◌, ◌<◌, ℕ, [], length, take, get_or}
use Rattle.spec_core.specs.Findings.{Clean, each_after}
use Rattle.sort_check.specs.Orders.{symbol_numbers, level_in}
use Rattle.sort_check.specs.OrderTests.{names_in, equal_tests}
use Rattle.sort_check.specs.Marks.{AreMarks}
use Rattle.sort_check.proofs.orders.set_levels.Given as goal

abbrev pub invariant-loop-raw : goal.invariant-loop-raw
invariant-loop-raw l =
    record {
      long : length l.taken.items ≡ length l.sig.table;
      as_many : length l.levels ≡ length l.sig.table;
      marks : AreMarks (symbol_numbers l.sig (names_in (take l.raw-index l.raws))) l.taken.items;
      clean : Clean (each_after (equal_tests l.sig) [] (take l.raw-index l.raws));
      levels :
          (f : ℕ) → f < length l.sig.table →
          get_or l.levels f 0 ≡ level_in l.sig (take l.raw-index l.raws) f;
    }
