-- The symbols of values.
use Rattle.std.proofs.Common.{[]}
use Rattle.term_core.specs.Tree.{Tree}
use Rattle.term_core.specs.declared.ids.SortId.{SortId}
use Rattle.spec_core.specs.Sig.{Sig}
use Rattle.spec_core.specs.Sorts.{IsValue}
use Rattle.spec_core.specs.TermText.{SymbolsAreInRange}
use Rattle.rule_code.proofs.Ranges.{sorted_in_range}

pub value_symbols : (sig : Sig) (s : SortId) (t : Tree) → IsValue sig s t → SymbolsAreInRange sig t
value_symbols sig s t h = sorted_in_range sig [] t s h.0
