-- Places of a term: paths of argument numbers, which count from 1. The empty path is the place of the whole term.
use Rattle.std.specs.Prelude.{◌≡◌, ℕ, ◌+◌, List, [], ◌∷◌, Some, slice_get, slice_set}
use Rattle.term_core.specs.Tree.{Tree, Trees, var, app, list_of, trees_of}

-- the argument with this number
abbrev pub IsArgument : ℕ → Trees → Tree → Type 0
IsArgument number ts t = (k : ℕ) × (number ≡ k + 1) × (slice_get (list_of ts) k ≡ Some t)

-- the subterm at the path
abbrev pub IsAt : List ℕ → Tree → Tree → Type 0
IsAt [] t s = s ≡ t
IsAt (number ∷ path) (var n) s = ⊥
IsAt (number ∷ path) (app f ts) s = (t : Tree) × IsArgument number ts t × IsAt path t s

-- the term has no such place
abbrev pub HasNoPlace : List ℕ → Tree → Type 0
HasNoPlace path t = (s : Tree) → IsAt path t s → ⊥

-- the second arguments are the first ones with the argument with this number exchanged
abbrev pub IsExchanged : ℕ → Trees → Tree → Trees → Type 0
IsExchanged number ts t us =
    (k : ℕ) × (number ≡ k + 1) × (us ≡ trees_of (slice_set (list_of ts) k t))

-- the second term is the first one with the subterm at the path exchanged for `new`
abbrev pub IsReplaced : List ℕ → Tree → Tree → Tree → Type 0
IsReplaced [] t new made = made ≡ new
IsReplaced (number ∷ path) (var n) new made = ⊥
IsReplaced (number ∷ path) (app f ts) new made =
    (old : Tree) × (changed : Tree) × (us : Trees) × IsArgument number ts old
    × IsReplaced path old new changed × IsExchanged number ts changed us × (made ≡ app f us)
