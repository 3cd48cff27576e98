-- Terms on the way to their normal forms, whose arguments are normal already.
use Rattle.std.specs.Prelude.{◌≡◌, ℕ, ◌≤◌, List, [], ◌++◌, map, length, Option, Some, None}
use Rattle.std.specs.List.{AllByRecursion}
use Rattle.term_core.specs.Tree.{Tree, var, app, trees_of, list_of}
use Rattle.spec_core.specs.declared.records.Spec.{Spec}
use Rattle.normalization.specs.NormalForms.{IsNormal, Runs}
use Rattle.normalization.specs.Narrow.{IsNarrow}
use Rattle.normalization.specs.Walks.{below, Exceeds}

-- the terms are normal and narrow
abbrev pub AreDone : Spec → List Tree → Type 0
AreDone spec ts = AllByRecursion (IsNormal spec) ts × AllByRecursion IsNarrow ts

-- the arguments of the term are normal and narrow, and few
abbrev pub HasNormalArguments : Spec → Tree → Type 0
HasNormalArguments spec (var n) = Unit {0}
HasNormalArguments spec (app f ts) = AreDone spec (list_of ts) × (length (list_of ts) ≤ 8)

-- these uses lead to a term with normal arguments, and are added at places below this one, within the budget
pub record Opened (spec : Spec) (place : List ℕ) (budget : ℕ) (t : Tree)
    (old new : List (List ℕ × ℕ)) (v : Tree) : Type 0 where
  pub uses : List (List ℕ × ℕ)
  pub runs : Runs spec t uses v
  pub normal : HasNormalArguments spec v
  pub added : new ≡ old ++ map (below place) uses
  pub within : length new ≤ budget

abbrev pub IsOpening : Spec → List ℕ → ℕ → Tree → List (List ℕ × ℕ) → List (List ℕ × ℕ)
    → Option Tree → Type 0
IsOpening spec place budget t old new (Some v) = Opened spec place budget t old new v
IsOpening spec place budget t old new None = Exceeds spec budget t old

-- of the arguments of any symbol the first have become these normal forms, and the rest is left
pub record Advanced (spec : Spec) (place : List ℕ) (budget : ℕ) (ts : List Tree)
    (old new : List (List ℕ × ℕ)) (made rest : List Tree) : Type 0 where
  pub uses : List (List ℕ × ℕ)
  pub runs : (f : ℕ) → Runs spec (app f (trees_of ts)) uses (app f (trees_of (made ++ rest)))
  pub done : AreDone spec made
  pub added : new ≡ old ++ map (below place) uses
  pub within : length new ≤ budget

abbrev pub IsWalkOfAll : Spec → List ℕ → ℕ → List Tree → List (List ℕ × ℕ) → List (List ℕ × ℕ)
    → Option (List Tree) → Type 0
IsWalkOfAll spec place budget ts old new (Some vs) =
    Advanced spec place budget ts old new vs [] × (length vs ≡ length ts)
IsWalkOfAll spec place budget ts old new None =
    (f : ℕ) → Exceeds spec budget (app f (trees_of ts)) old
