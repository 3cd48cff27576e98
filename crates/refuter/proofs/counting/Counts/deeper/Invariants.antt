use Rattle.std.proofs.Common.{◌≡◌, ◌+◌, ℕ, List, Some, length}
use Rattle.std.specs.Prelude.{slice_get}
use Rattle.term_core.specs.declared.ids.SortId.{SortId}
use Rattle.refuter.specs.Counts.{IsCapped, values_of_size}
use Rattle.refuter.proofs.counting.Counts.deeper.Given as goal

abbrev pub invariant-loop-sort : goal.invariant-loop-sort
invariant-loop-sort l = record {
  long : length l.table ≡ l.sort;
  each : (s : SortId) (numbers : List ℕ) → slice_get l.table s.0 ≡ Some numbers →
      IsCapped l.self.cap (values_of_size l.self.sig (l.self.depth + 1) s) numbers;
}
