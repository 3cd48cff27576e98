use Rattle.std.proofs.Common.{◌≡◌, [], ◌∷◌, map, take}
use Rattle.term_core.specs.Tree.{Tree}
use Rattle.test_sets.proofs.patterns.rows_of.Given as goal

abbrev pub invariant-loop-pattern : goal.invariant-loop-pattern
invariant-loop-pattern l = l.rows.items ≡ map (λ (p : Tree). p ∷ []) (take l.pattern-index l.patterns)
