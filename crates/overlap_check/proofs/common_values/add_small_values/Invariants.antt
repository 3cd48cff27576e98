use Rattle.std.proofs.Common.{◌≡◌, ◌++◌, Some, List, map, take}
use Rattle.term_core.specs.Tree.{Tree, trees_of}
use Rattle.spec_core.specs.Small.{AreSmall}
use Rattle.spec_core.specs.WellSorted.{sorts_of}
use Rattle.overlap_check.proofs.common_values.add_small_values.Given as goal

abbrev pub invariant-loop-var : goal.invariant-loop-var
invariant-loop-var l =
    (xs : List Tree) × (l.values ≡ l.fn.values ++ map (λ x. Some x) xs)
    × AreSmall l.sig (sorts_of (take l.var-index l.vars)) (trees_of xs)
