-- The names that a store was asked for.
use Rattle.std.specs.Prelude.{◌≡◌, ℕ, List, [], ◌∷◌, ◌++◌}

-- the name was added at the end
abbrev pub AddsName : List (List ℕ) → List (List ℕ) → List ℕ → Type 0
AddsName old new name = new ≡ old ++ name ∷ []

-- the names that were asked for of a store that tells no content, and its count of faults
pub record UntoldFiles : Type 0 where
  pub asked : List (List ℕ)
  pub faults : ℕ
