use Rattle.std.proofs.Common.{◌≡◌, take}
use Rattle.term_core.specs.Tree.{trees_of}
use Rattle.term_core.specs.Measures.{measures_of}
use Rattle.term_core.proofs.tree.measure_all.Given as goal

abbrev pub invariant-loop-term : goal.invariant-loop-term
invariant-loop-term l = l.measure ≡ measures_of (trees_of (take l.term-index l.terms))
