-- The first rule with a variable that occurs twice on its left side.
use Rattle.std.specs.Prelude.{◌≡◌, ℕ, ◌+◌, ◌<◌, Some, slice_get}
use Rattle.term_core.specs.Tree.{Tree}
use Rattle.spec_core.specs.declared.records.Rule.{Rule}
use Rattle.spec_core.specs.declared.records.Spec.{Spec}
use Rattle.spec_core.specs.Linear.{OccursTwice, IsLinear, LeftSidesAreLinear}
use Rattle.overlap_check.specs.declared.answers.Linear.{Linear}
use Rattle.overlap_check.specs.declared.answers.Linear.TheVariants.{Fine, Repeated}

-- the variable occurs twice in the term, and no smaller one does
abbrev pub IsLeastRepeated : Tree → ℕ → Type 0
IsLeastRepeated t n = OccursTwice n t × ((m : ℕ) → m < n → OccursTwice m t → ⊥)

-- the rule at this place has this variable twice on its left side, and no smaller one, and each
-- rule before it is linear
pub record IsFirstRepeated (spec : Spec) (place var : ℕ) : Type 0 where
  pub rule : Rule
  pub at : slice_get spec.rules place ≡ Some rule
  pub least : IsLeastRepeated rule.left var
  pub before : (k : ℕ) (earlier : Rule) →
      k < place → slice_get spec.rules k ≡ Some earlier → IsLinear earlier.left

-- what an answer says of a specification; rules count from 1
abbrev pub IsLinearity : Spec → Linear → Type 0
IsLinearity spec Fine = LeftSidesAreLinear spec
IsLinearity spec (Repeated rule v) =
    (place : ℕ) × (rule ≡ place + 1) × IsFirstRepeated spec place v.0
