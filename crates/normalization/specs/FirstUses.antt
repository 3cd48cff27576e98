-- The leftmost-innermost use of an unguarded rule.
use Rattle.std.specs.Prelude.{◌≡◌, ℕ, ◌<◌, ◌⊎◌, List, [], ◌∷◌}
use Rattle.term_core.specs.Tree.{Tree}
use Rattle.term_core.specs.Places.{IsAt, IsReplaced}
use Rattle.spec_core.specs.declared.records.Spec.{Spec}
use Rattle.normalization.specs.Uses.{Use, IsStuck}

-- the first place comes before the second: it is below it, or further to the left
abbrev pub Before : List ℕ → List ℕ → Type 0
Before [] q = ⊥
Before (i ∷ p) [] = Unit {0}
Before (i ∷ p) (j ∷ q) = (i < j) ⊎ ((i ≡ j) × Before p q)

-- the second term is the first one after the use of the rule with this number at this place: the left side of no unguarded
-- rule matches at a place before it, and that of none of less number matches there
pub record IsFirstUse (spec : Spec) (t : Tree) (place : List ℕ) (number : ℕ) (u : Tree) : Type 0
  where
    pub old : Tree
    pub new : Tree
    pub at : IsAt place t old
    pub rule : Use spec number old new
    pub made : IsReplaced place t new u
    pub first : (p : List ℕ) (s : Tree) → Before p place → IsAt p t s → IsStuck spec s
    pub least : (m : ℕ) (v : Tree) → m < number → Use spec m old v → ⊥
