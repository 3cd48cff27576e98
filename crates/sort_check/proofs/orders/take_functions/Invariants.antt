use Rattle.std.proofs.Common.{◌≡◌, ℕ, List, [], ◌++◌, length, take}
use Rattle.spec_core.specs.Findings.{Clean, each_after}
use Rattle.sort_check.specs.Orders.{symbol_numbers}
use Rattle.sort_check.specs.OrderTests.{name_tests}
use Rattle.sort_check.specs.Marks.{AreMarks, AllAreBelow, numbers_of, wanted_arity}
use Rattle.sort_check.proofs.orders.take_functions.Given as goal

abbrev pub invariant-loop-raw : goal.invariant-loop-raw
invariant-loop-raw l =
    record {
      long : length l.taken ≡ length l.sig.table;
      within : AllAreBelow (length l.sig.table) l.functions;
      made : numbers_of l.functions ≡ symbol_numbers l.sig (take l.raw-index l.raws);
      wanted : l.wanted ≡ wanted_arity l.sig (take l.raw-index l.raws);
      marks :
          (seen : List ℕ) → AreMarks seen l.fn.taken →
          AreMarks (seen ++ symbol_numbers l.sig (take l.raw-index l.raws)) l.taken;
      clean :
          (seen : List ℕ) → AreMarks seen l.fn.taken →
          Clean (each_after (name_tests l.sig seen) [] (take l.raw-index l.raws));
    }
