-- Variables as they are met one after the other.
use Rattle.std.specs.Prelude.{ℕ, ◌==◌, List, [], ◌∷◌, ◌++◌, if◌then◌else◌}
use Rattle.std.specs.List.{list_any}

-- the numbers with one more, which is added after them if it is new
abbrev pub met : List ℕ → ℕ → List ℕ
met found n = if list_any (λ m. m == n) found then found else (found ++ n ∷ [])

abbrev pub gathered : List ℕ → List ℕ → List ℕ
gathered found [] = found
gathered found (n ∷ ns) = gathered (met found n) ns
