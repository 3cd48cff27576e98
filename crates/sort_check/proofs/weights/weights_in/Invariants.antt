use Rattle.std.proofs.Common.{◌≡◌, ◌<◌, ℕ, [], length, take, get_or}
use Rattle.spec_core.specs.Findings.{Clean, each_after}
use Rattle.sort_check.specs.Orders.{symbol_numbers, weight_in}
use Rattle.sort_check.specs.OrderTests.{weighed_names, weight_tests}
use Rattle.sort_check.specs.Marks.{AreMarks}
use Rattle.sort_check.proofs.weights.weights_in.Given as goal

abbrev pub invariant-loop-raw : goal.invariant-loop-raw
invariant-loop-raw l =
    record {
      long : length l.taken.items ≡ length l.sig.table;
      as_many : length l.weights.items ≡ length l.sig.table;
      marks : AreMarks (symbol_numbers l.sig (weighed_names (take l.raw-index l.raws))) l.taken.items;
      clean : Clean (each_after (weight_tests l.sig) [] (take l.raw-index l.raws));
      weights :
          (f : ℕ) → f < length l.sig.table →
          get_or l.weights.items f 0 ≡ weight_in l.sig (take l.raw-index l.raws) f;
    }
