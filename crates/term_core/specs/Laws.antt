-- Laws of places.
use Rattle.std.specs.Prelude.{◌≡◌, ℕ, List}
use Rattle.term_core.specs.Tree.{Tree}
use Rattle.term_core.specs.Places.{IsAt, IsReplaced}

-- a path has one subterm at most, and exchanging it has one result at most
abbrev pub OnePlace : Type 0
OnePlace = (path : List ℕ) (t new a b : Tree) → (IsAt path t a → IsAt path t b → a ≡ b)
    × (IsReplaced path t new a → IsReplaced path t new b → a ≡ b)

-- what is at the place of an exchanged subterm is the new one
abbrev pub ReplacedIsThere : Type 0
ReplacedIsThere =
    (path : List ℕ) (t new made : Tree) → IsReplaced path t new made → IsAt path made new
