-- The rules of one left side, and whole groups of guards.
use Rattle.std.specs.Prelude.{◌≡◌, ℕ, suc, List, [], ◌∷◌, Bool, true, false, not, if◌then◌else◌, Some, slice_get}
use Rattle.std.specs.List.{AllByRecursion}
use Rattle.term_core.specs.Tree.{Tree}
use Rattle.term_core.specs.Same.{same_tree}
use Rattle.spec_core.specs.declared.records.Rule.{Rule}
use Rattle.spec_core.specs.declared.records.Guard.{Guard}
use Rattle.spec_core.specs.declared.records.Spec.{Spec}

-- the numbers and the guards of the rules with this left side, where the first rule has the number n
abbrev pub group : Tree → ℕ → List Rule → List (ℕ × List Guard)
group left n [] = []
group left n (r ∷ rs) =
    if same_tree left r.left then (n, r.guards) ∷ group left (suc n) rs else group left (suc n) rs

-- the first guard has this test
abbrev pub BeginsWith : Tree → List Guard → Type 0
BeginsWith test [] = ⊥
BeginsWith test (g ∷ gs) = g.test ≡ test

abbrev pub bool_same : Bool → Bool → Bool
bool_same true b = b
bool_same false b = not b

abbrev pub rest_if : Bool → ℕ → List Guard → List (ℕ × List Guard) → List (ℕ × List Guard)
rest_if wanted k [] ms = ms
rest_if wanted k (g ∷ gs) ms = if bool_same wanted g.wanted then (k, gs) ∷ ms else ms

-- of the guard lists that begin by wanting this Boolean, the rests
abbrev pub wanting : Bool → List (ℕ × List Guard) → List (ℕ × List Guard)
wanting wanted [] = []
wanting wanted (m ∷ ms) = rest_if wanted m.0 m.1 (wanting wanted ms)

-- guard lists that form a complete decision tree: one list, which is empty; or all lists begin with one test,
-- and the rests of those that want it true are whole, and so are the rests of those that want it false
pub data Whole : List (ℕ × List Guard) → Type 0 where
  alone : {k : ℕ} → Whole ((k, []) ∷ [])
  split : {ms : List (ℕ × List Guard)} (test : Tree)
      → AllByRecursion (λ (m : ℕ × List Guard). BeginsWith test m.1) ms → Whole (wanting true ms)
      → Whole (wanting false ms) → Whole ms

-- the guard lists of the rules of each left side are whole
abbrev pub GroupsAreWhole : Spec → Type 0
GroupsAreWhole spec = (k : ℕ) (rule : Rule) → slice_get spec.rules k ≡ Some rule
    → Whole (group rule.left 0 spec.rules)
