-- The terms of a list that others may share, and what is kept of them.
use Rattle.std.specs.Prelude.{◌≡◌, List, [], Option, Some, None}
use Rattle.term_core.specs.Tree.{Tree, trees_of}
use Rattle.term_core.specs.Measures.{measures_of}
use Rattle.term_core.specs.declared.tree.Measured.{Measured}

abbrev pub terms_in : Option Measured → List Tree
terms_in None = []
terms_in (Some shared) = shared.items.items

-- the measure is that of the terms
abbrev pub IsMeasured : Option Measured → Type 0
IsMeasured None = Unit {0}
IsMeasured (Some shared) = shared.measure ≡ measures_of (trees_of shared.items.items)
