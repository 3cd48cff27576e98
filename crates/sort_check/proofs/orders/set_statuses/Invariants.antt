use Rattle.std.proofs.Common.{◌≡◌, ◌<◌, ℕ, [], length, take, get_or}
use Rattle.spec_core.specs.Findings.{Clean, each_after}
use Rattle.sort_check.specs.Orders.{symbol_numbers, status_in}
use Rattle.sort_check.specs.OrderTests.{heads_of, status_tests}
use Rattle.sort_check.specs.Marks.{AreMarks}
use Rattle.sort_check.proofs.orders.set_statuses.Given as goal

abbrev pub invariant-loop-raw : goal.invariant-loop-raw
invariant-loop-raw l =
    record {
      long : length l.taken.items ≡ length l.sig.table;
      as_many : length l.statuses ≡ length l.sig.table;
      marks : AreMarks (symbol_numbers l.sig (heads_of (take l.raw-index l.raws))) l.taken.items;
      clean : Clean (each_after (status_tests l.sig) [] (take l.raw-index l.raws));
      statuses :
          (f : ℕ) → f < length l.sig.table →
          get_or l.statuses f [] ≡ status_in l.sig (take l.raw-index l.raws) f;
    }
