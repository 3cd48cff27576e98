-- Calls of a function that exactly one left side matches.
use Rattle.std.specs.Prelude.{◌≡◌, ℕ, List, Some, slice_get}
use Rattle.term_core.specs.Tree.{Tree, Trees, app, instance}
use Rattle.spec_core.specs.declared.records.Rule.{Rule}
use Rattle.spec_core.specs.declared.records.Spec.{Spec}

-- some rule has this left side, and some substitution makes the call of it
abbrev pub IsLeftSideFor : Spec → ℕ → Trees → Tree → Type 0
IsLeftSideFor spec f vs left =
    (k : ℕ) × (rule : Rule) × (xs : List Tree)
    × (slice_get spec.rules k ≡ Some rule) × (rule.left ≡ left) × (instance xs left ≡ app f vs)

-- some left side matches the call of f with these values, and no other one does
pub record HasOneLeftSide (spec : Spec) (f : ℕ) (vs : Trees) : Type 0 where
  pub left : Tree
  pub matches : IsLeftSideFor spec f vs left
  pub only : (other : Tree) → IsLeftSideFor spec f vs other → other ≡ left
