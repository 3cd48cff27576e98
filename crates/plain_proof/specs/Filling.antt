-- Substitutions with an entry for each of the first variables.
use Rattle.std.specs.Prelude.{◌≡◌, ℕ, ◌<◌, List, Option, Some}
use Rattle.term_core.specs.Tree.{Tree}
use Rattle.substitutions.specs.Substitution.{entry, image}

-- each variable becomes what it became, and each of the first ones has an entry
pub record IsFilled (old : List (Option Tree)) (count : ℕ) (new : List (Option Tree)) :
    Type 0 where
  pub images : (n : ℕ) → image new n ≡ image old n
  pub entries : (n : ℕ) → n < count → entry new n ≡ Some (image old n)
