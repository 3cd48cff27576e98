use Rattle.std.proofs.Common.{take}
use Rattle.term_core.specs.Tree.{trees_of}
use Rattle.value_bank.specs.Cells.{AreTerms}
use Rattle.refuter.proofs.sized_bank.read_terms.Given as goal

abbrev pub invariant-loop-place : goal.invariant-loop-place
invariant-loop-place l = AreTerms l.bank (take l.place-index l.places) (trees_of l.made.items)
