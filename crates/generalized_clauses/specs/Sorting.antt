-- Equations whose sides have one sort.
use Rattle.std.specs.Prelude.{List}
use Rattle.term_core.specs.declared.ids.SortId.{SortId}
use Rattle.spec_core.specs.declared.records.Equation.{Equation}
use Rattle.spec_core.specs.Sig.{Sig}
use Rattle.spec_core.specs.Sorts.{Sorted}

abbrev pub HasOneSort : Sig → List SortId → Equation → Type 0
HasOneSort sig ctx e = (s : SortId) × Sorted sig ctx e.left s × Sorted sig ctx e.right s
