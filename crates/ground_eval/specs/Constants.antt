-- Values with constants for variables, and what they tell whatever the variables are.
use Rattle.std.specs.Prelude.{◌≡◌, ◌≢◌, ◌↔◌, ◌⊎◌, ℕ, ◌<◌, ◌≤◌, Bool, IsTrue, List, Some, slice_get}
use Rattle.term_core.specs.Tree.{Tree, Trees, var, app, none, some}
use Rattle.value_bank.specs.Cells.{Cell, IsTerm}
use Rattle.ground_eval.specs.declared.answers.OpenSides.{OpenSides}
use Rattle.ground_eval.specs.declared.answers.OpenSides.TheVariants.{Same, Differ, Unknown}

-- the symbols from c on and below d are constants for variables
module _ (c d : ℕ) where
  abbrev pub IsConstant : ℕ → Type 0
  IsConstant f = (c ≤ f) × (f < d)

  -- such a constant occurs in the term
  abbrev mutual
    pub HasConstant : Tree → Type 0
    HasConstant (var n) = ⊥
    HasConstant (app f ts) = IsConstant f ⊎ SomeHasConstant ts

    pub SomeHasConstant : Trees → Type 0
    SomeHasConstant none = ⊥
    SomeHasConstant (some t ts) = HasConstant t ⊎ SomeHasConstant ts

  -- the heads are two different symbols, and no constants
  abbrev pub HeadsAreApart : Tree → Tree → Type 0
  HeadsAreApart (var m) w = ⊥
  HeadsAreApart (app f ts) (var n) = ⊥
  HeadsAreApart (app f ts) (app g us) = (f ≢ g) × ¬ (IsConstant f) × ¬ (IsConstant g)

  -- two values are different whatever their constants stand for: their heads are, or they are two
  -- without constants
  abbrev pub AreApart : Tree → Tree → Type 0
  AreApart v w = HeadsAreApart v w ⊎ ((v ≢ w) × ¬ (HasConstant v) × ¬ (HasConstant w))

  -- two values are the same, or different whatever their constants stand for, or neither
  abbrev pub ValuesAre : Tree → Tree → OpenSides → Type 0
  ValuesAre v w Same = v ≡ w
  ValuesAre v w Differ = AreApart v w
  ValuesAre v w Unknown = (v ≢ w) × ¬ (AreApart v w)

  -- the mark of the place says whether a constant occurs in its term
  pub record IsMarked (cells : List Cell) (place : ℕ) (mark : Bool) : Type 0 where
    pub term : Tree
    pub there : IsTerm cells place term
    pub says : IsTrue mark ↔ HasConstant term

  -- so does each mark, by its place
  abbrev pub AreMarks : List Cell → List Bool → Type 0
  AreMarks cells marks =
      (k : ℕ) (mark : Bool) → slice_get marks k ≡ Some mark → IsMarked cells k mark
