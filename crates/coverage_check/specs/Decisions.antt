-- Whether values are missing, by what rows admit.
use Rattle.std.specs.Prelude.{◌≡◌, ℕ, ◌<◌, List, [], ◌∷◌, Bool, true, false, Option, Some, None}
use Rattle.std.specs.List.{AllByRecursion}
use Rattle.term_core.specs.Tree.{Tree, Trees, var, app, none, some, trees_of}
use Rattle.term_core.specs.declared.ids.SortId.{SortId}
use Rattle.spec_core.specs.declared.records.SymInfo.{SymInfo}
use Rattle.spec_core.specs.Sig.{Sig, info_of, IsConstructor, IsSort}
use Rattle.spec_core.specs.Declarations.{IsDeclared}
use Rattle.coverage_check.specs.Values.{AreValues}
use Rattle.coverage_check.specs.Admits.{SomeAdmits}
use Rattle.coverage_check.specs.Opened.{opened_before}
use Rattle.coverage_check.specs.Named.{IsSettled}

module _ (sig : Sig) where
  -- a constructor pattern of the sort, where a variable has any sort
  abbrev mutual
    pub IsPatternOf : Tree → SortId → Type 0
    IsPatternOf (var n) s = Unit {0}
    IsPatternOf (app f ts) s =
        IsConstructor sig f
        × ((i : SymInfo) × (info_of sig f ≡ Some i) × (i.result ≡ s) × ArePatternsOf ts i.args)

    pub ArePatternsOf : Trees → List SortId → Type 0
    ArePatternsOf none [] = Unit {0}
    ArePatternsOf (some t ts) (s ∷ ss) = IsPatternOf t s × ArePatternsOf ts ss
    ArePatternsOf none (s ∷ ss) = ⊥
    ArePatternsOf (some t ts) [] = ⊥

  -- the patterns of a row have these sorts
  abbrev pub HasSorts : List SortId → List Tree → Type 0
  HasSorts sorts row = ArePatternsOf (trees_of row) sorts

  -- values of the sorts that no row admits
  abbrev pub IsUnadmitted : List (List Tree) → List SortId → List Tree → Type 0
  IsUnadmitted rows sorts vs = AreValues sig sorts vs × (SomeAdmits rows vs → ⊥)

  -- some values are missing
  abbrev pub SomeMissing : List (List Tree) → List SortId → Type 0
  SomeMissing rows sorts = (vs : List Tree) × IsUnadmitted rows sorts vs

  -- no values are missing
  abbrev pub NoneMissing : List (List Tree) → List SortId → Type 0
  NoneMissing rows sorts = (vs : List Tree) → AreValues sig sorts vs → SomeAdmits rows vs

  -- what a search asks: constructor patterns of sorts of a declared signature, and a variable to
  -- take the place of one that is opened
  pub record IsMatrix (rows : List (List Tree)) (sorts : List SortId) (blank : Tree) : Type 0 where
    pub declared : IsDeclared sig
    pub range : AllByRecursion (IsSort sig) sorts
    pub patterns : AllByRecursion (HasSorts sorts) rows
    pub variable : blank ≡ var 0

  -- the answer whether values are missing
  abbrev pub IsDecision : List (List Tree) → List SortId → Bool → Type 0
  IsDecision rows sorts true = SomeMissing rows sorts
  IsDecision rows sorts false = NoneMissing rows sorts

  -- the answer whether values are missing that begin with the constructor
  abbrev pub IsDecisionUnder : ℕ → List (List Tree) → List SortId → Bool → Type 0
  IsDecisionUnder c rows sorts true =
      (args : Trees) × (vs : List Tree) × IsUnadmitted rows sorts (app c args ∷ vs)
  IsDecisionUnder c rows sorts false = IsSettled sig rows sorts c

-- the first pattern is no application of the constructor
abbrev pub BeginsOtherwise : ℕ → List Tree → Type 0
BeginsOtherwise c [] = Unit {0}
BeginsOtherwise c (var n ∷ ps) = Unit {0}
BeginsOtherwise c (app f ts ∷ ps) = f ≡ c → ⊥

-- the constructor is of the sort
abbrev pub IsOf : Sig → SortId → ℕ → Type 0
IsOf sig s c = IsConstructor sig c × ((i : SymInfo) × (info_of sig c ≡ Some i) × (i.result ≡ s))

-- the constructor is of the first sort
abbrev pub FirstIsOf : Sig → List SortId → ℕ → Type 0
FirstIsOf sig [] c = ⊥
FirstIsOf sig (s ∷ ss) c = IsOf sig s c

-- some values are missing that begin with this constructor of the first sort, and none that begin
-- with one before it
pub record IsFirstMissing (sig : Sig) (rows : List (List Tree)) (sorts : List SortId)
    (c : ℕ) : Type 0 where
  pub of_first : FirstIsOf sig sorts c
  pub missing : IsDecisionUnder sig c rows sorts true
  pub before : (d : ℕ) → d < c → IsSettled sig rows sorts d

-- the row, if there is one, before others
abbrev pub placed : Option (List Tree) → List (List Tree) → List (List Tree)
placed None rows = rows
placed (Some row) rows = row ∷ rows

-- what the row becomes when it is opened, if it isn't left out
abbrev pub IsOpening : ℕ → ℕ → List Tree → Option (List Tree) → Type 0
IsOpening c count row opening =
    (rows : List (List Tree)) → opened_before c count row rows ≡ placed opening rows
