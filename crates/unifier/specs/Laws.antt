-- Laws of the definitions.
use Rattle.std.specs.Prelude.{ℕ, ◌<◌}
use Rattle.term_core.specs.Tree.{Tree}
use Rattle.term_core.specs.Variables.{Occurs}
use Rattle.unifier.specs.Shifting.{shifted}

-- no variable occurs in a term with numbers below `by` and in one that is shifted by `by`
abbrev pub ShiftedAreApart : Type 0
ShiftedAreApart =
    (by : ℕ) (a b : Tree) → ((n : ℕ) → Occurs n a → n < by) →
    (n : ℕ) → Occurs n a → Occurs n (shifted by b) → ⊥
