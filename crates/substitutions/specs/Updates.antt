-- Substitutions with one entry changed.
use Rattle.std.specs.Prelude.{◌≡◌, ◌≢◌, ℕ, List, Option, Some}
use Rattle.term_core.specs.Tree.{Tree}
use Rattle.substitutions.specs.Substitution.{entry}

-- the variable has this entry, and each other variable the one that it had
abbrev pub IsSetTo : List (Option Tree) → ℕ → Tree → List (Option Tree) → Type 0
IsSetTo old n t new = (entry new n ≡ Some t) × ((m : ℕ) → m ≢ n → entry new m ≡ entry old m)
