-- The missing values that are named: the first ones in the order of constructors, and small ones
-- where the rows don't decide.
use Rattle.std.specs.Prelude.{◌≡◌, ℕ, ◌<◌, List, [], ◌∷◌, ◌++◌, Some, length}
use Rattle.std.specs.List.{AllByRecursion}
use Rattle.term_core.specs.Tree.{Tree, Trees, app, trees_of, list_of}
use Rattle.term_core.specs.declared.ids.SortId.{SortId}
use Rattle.spec_core.specs.declared.records.SymInfo.{SymInfo}
use Rattle.spec_core.specs.Sig.{Sig, info_of, IsConstructor}
use Rattle.spec_core.specs.Small.{IsSmall, AreSmall}
use Rattle.coverage_check.specs.Values.{AreValues}
use Rattle.coverage_check.specs.Admits.{SomeAdmits}
use Rattle.coverage_check.specs.Opened.{BeginsWithVariable, rests, opened}

-- all values of the sorts that begin with the constructor are admitted
abbrev pub IsSettled : Sig → List (List Tree) → List SortId → ℕ → Type 0
IsSettled sig rows sorts c =
    (args : Trees) (vs : List Tree) →
    AreValues sig sorts (app c args ∷ vs) → SomeAdmits rows (app c args ∷ vs)

module _ (sig : Sig) where
  -- not all rows begin with a variable, and under no constructor before this one, which is of the
  -- sort, are values missing; that some are missing under this one follows if values are named
  -- under it (`one_named`)
  pub record IsFirstOpen (rows : List (List Tree)) (s : SortId) (ss : List SortId)
      (c : ℕ) (i : SymInfo) : Type 0 where
    pub decides : AllByRecursion BeginsWithVariable rows → ⊥
    pub constructor : IsConstructor sig c
    pub info : info_of sig c ≡ Some i
    pub result : i.result ≡ s
    pub before : (d : ℕ) → d < c → IsSettled sig rows (s ∷ ss) d

  -- the values that are named for rows of patterns of the sorts
  pub data IsNamed : List (List Tree) → List SortId → List Tree → Type 0 where
    no_sorts : IsNamed [] [] []
    no_rows : {s : SortId} {ss : List SortId} {vs : List Tree} →
        AreSmall sig (s ∷ ss) (trees_of vs) →
        IsNamed [] (s ∷ ss) vs
    all_variables : {rows : List (List Tree)} {s : SortId} {ss : List SortId} {v : Tree}
        {vs : List Tree} →
        (rows ≡ [] → ⊥) →
        AllByRecursion BeginsWithVariable rows →
        IsSmall sig s v →
        IsNamed (rests rows) ss vs →
        IsNamed rows (s ∷ ss) (v ∷ vs)
    first_constructor : {rows : List (List Tree)} {s : SortId} {ss : List SortId} {firsts : Trees}
        {rest : List Tree} (c : ℕ) (i : SymInfo) →
        IsFirstOpen rows s ss c i →
        length (list_of firsts) ≡ length i.args →
        IsNamed (opened c (length i.args) rows) (i.args ++ ss) (list_of firsts ++ rest) →
        IsNamed rows (s ∷ ss) (app c firsts ∷ rest)
