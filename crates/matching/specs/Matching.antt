-- Matching.
use Rattle.std.specs.Prelude.{◌≡◌, ◌↔◌, ℕ, List, Option, Bool, true, false}
use Rattle.std.specs.Option.{IsSome}
use Rattle.term_core.specs.Tree.{Tree}
use Rattle.term_core.specs.Variables.{Occurs}
use Rattle.substitutions.specs.Substitution.{entry, apply}

-- the substitution makes the pattern the term, and has entries for the pattern's variables alone
abbrev pub IsMatch : Tree → Tree → List (Option Tree) → Type 0
IsMatch pattern term s =
    (apply s pattern ≡ term) × ((n : ℕ) → IsSome (entry s n) ↔ Occurs n pattern)

-- no substitution makes the pattern the term
abbrev pub HasNoMatch : Tree → Tree → Type 0
HasNoMatch pattern term = (s : List (Option Tree)) → apply s pattern ≡ term → ⊥

-- whether some substitution makes the pattern the term
abbrev pub Fits : Tree → Tree → Bool → Type 0
Fits pattern term true = (s : List (Option Tree)) × IsMatch pattern term s
Fits pattern term false = HasNoMatch pattern term
