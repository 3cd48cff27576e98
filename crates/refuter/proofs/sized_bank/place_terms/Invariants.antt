use Rattle.std.proofs.Common.{◌+◌, ◌≤◌, length, take}
use Rattle.term_core.specs.Tree.{trees_of, sizes}
use Rattle.value_bank.specs.Cells.{AreTerms, AddsCells}
use Rattle.refuter.proofs.sized_bank.place_terms.Given as goal

abbrev pub invariant-loop-value : goal.invariant-loop-value
invariant-loop-value l = record {
  placed : AreTerms l.bank l.places.items (trees_of (take l.value-index l.values));
  adds : AddsCells l.fn.bank l.bank;
  few : length l.bank ≤ length l.fn.bank + sizes (trees_of (take l.value-index l.values));
}
