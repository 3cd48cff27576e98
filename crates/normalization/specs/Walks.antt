-- What a walk to a normal form finds.
use Rattle.std.specs.Prelude.{◌≡◌, ℕ, suc, ◌+◌, ◌≤◌, List, ◌++◌, map, length, Option, Some, None}
use Rattle.term_core.specs.Tree.{Tree}
use Rattle.spec_core.specs.declared.records.Spec.{Spec}
use Rattle.substitutions.specs.Substitution.{entry, apply}
use Rattle.normalization.specs.NormalForms.{IsNormal, Runs}
use Rattle.normalization.specs.Narrow.{IsNarrow}

-- the use at a place below this one
abbrev pub below : List ℕ → List ℕ × ℕ → List ℕ × ℕ
below place w = (place ++ w.0, w.1)

-- each entry is normal and narrow
abbrev pub IsFine : Spec → List (Option Tree) → Type 0
IsFine spec entries = (n : ℕ) (t : Tree) → entry entries n ≡ Some t → IsNormal spec t × IsNarrow t

-- the term is an instance of the pattern, in which normal and narrow terms stand for the variables
abbrev pub IsInstance : Spec → Tree → Tree → Type 0
IsInstance spec pattern t =
    (entries : List (Option Tree)) × IsFine spec entries × (apply entries pattern ≡ t)

-- the same of terms and their patterns, by the same entries
abbrev pub AreInstances : Spec → List Tree → List Tree → Type 0
AreInstances spec patterns ts =
    (entries : List (Option Tree)) × IsFine spec entries × (map (apply entries) patterns ≡ ts)

-- the term has this normal form, and its uses are added at places below this one, within the budget
pub record Normalized (spec : Spec) (place : List ℕ) (budget : ℕ) (t : Tree)
    (old new : List (List ℕ × ℕ)) (v : Tree) : Type 0 where
  pub uses : List (List ℕ × ℕ)
  pub runs : Runs spec t uses v
  pub normal : IsNormal spec v
  pub narrow : IsNarrow v
  pub added : new ≡ old ++ map (below place) uses
  pub within : length new ≤ budget

-- the term has one use too many for the budget
pub record Exceeds (spec : Spec) (budget : ℕ) (t : Tree) (old : List (List ℕ × ℕ)) : Type 0 where
  pub uses : List (List ℕ × ℕ)
  pub last : Tree
  pub runs : Runs spec t uses last
  pub many : length old + length uses ≡ suc budget

abbrev pub IsWalk : Spec → List ℕ → ℕ → Tree → List (List ℕ × ℕ) → List (List ℕ × ℕ) → Option Tree
    → Type 0
IsWalk spec place budget t old new (Some v) = Normalized spec place budget t old new v
IsWalk spec place budget t old new None = Exceeds spec budget t old
