-- Entries that a match adds to those that it finds.
use Rattle.std.specs.Prelude.{◌≡◌, ◌↔◌, ◌⊎◌, ℕ, List, Option, Some, Bool, true, false}
use Rattle.std.specs.Option.{IsSome}
use Rattle.term_core.specs.Tree.{Tree, trees_of}
use Rattle.term_core.specs.Variables.{Occurs, OccursAny}
use Rattle.substitutions.specs.Substitution.{entry, image, apply, apply_all}

-- the substitution makes of each variable with an entry that entry
abbrev pub Agrees : List (Option Tree) → List (Option Tree) → Type 0
Agrees entries s = (n : ℕ) (t : Tree) → entry entries n ≡ Some t → image s n ≡ t

-- the entries after a match: they are a match, keep the earlier ones, are added for the pattern's
-- variables alone, and each match that agrees with the earlier ones agrees with all
pub record ExtendsMatch (old new : List (Option Tree)) (occurs : ℕ → Type 0)
    (matches : List (Option Tree) → Type 0) : Type 0 where
  pub made : matches new
  pub keeps : (n : ℕ) (t : Tree) → entry old n ≡ Some t → entry new n ≡ Some t
  pub bound : (n : ℕ) → IsSome (entry new n) ↔ (IsSome (entry old n) ⊎ occurs n)
  pub only : (s : List (Option Tree)) → Agrees old s → matches s → Agrees new s

-- the entries after a match, or no match agrees with the earlier ones
abbrev pub ExtendsMatchIf :
    List (Option Tree) → List (Option Tree) → (ℕ → Type 0) → (List (Option Tree) → Type 0) →
    Bool → Type 0
ExtendsMatchIf old new occurs matches true = ExtendsMatch old new occurs matches
ExtendsMatchIf old new occurs matches false =
    (s : List (Option Tree)) → Agrees old s → matches s → ⊥

-- what the match of a pattern with a term finds
abbrev pub Binds : List (Option Tree) → Tree → Tree → List (Option Tree) → Bool → Type 0
Binds old pattern term new =
    ExtendsMatchIf old new (λ n. Occurs n pattern) (λ s. apply s pattern ≡ term)

-- what the match of patterns with terms finds
abbrev pub BindsAll :
    List (Option Tree) → List Tree → List Tree → List (Option Tree) → Bool → Type 0
BindsAll old patterns terms new =
    ExtendsMatchIf old new
    (λ n. OccursAny n (trees_of patterns))
    (λ s. apply_all s (trees_of patterns) ≡ trees_of terms)
