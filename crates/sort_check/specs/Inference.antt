-- Which variables of a goal get which sorts.
use Rattle.std.specs.Prelude.{◌≡◌, ℕ, ◌⊎◌, List, [], ◌∷◌, ◌++◌, Some, Contains, slice_get}
use Rattle.term_core.specs.declared.ids.SortId.{SortId}
use Rattle.spec_core.specs.declared.records.SymInfo.{SymInfo}
use Rattle.spec_core.specs.Sig.{Sig, info_of, names_of}
use Rattle.spec_core.specs.Declarations.{IsNewName}
use Rattle.spec_grammar.specs.RawTree.{RawTree, RawTrees, word, none as no_raws, some as more_raws}
use Rattle.spec_grammar.specs.declared.raw.RawBind.{RawBind}
use Rattle.spec_grammar.specs.declared.raw.RawEq.{RawEq}
use Rattle.spec_grammar.specs.declared.raw.RawGoal.{RawGoal}
use Rattle.sort_check.specs.Signatures.{SortStands}

module _ (sig : Sig) where
  -- a word alone that is no symbol
  abbrev pub IsBareVariable : List ℕ → RawTree → Type 0
  IsBareVariable x (word name at args) =
      (name ≡ x) × (args ≡ no_raws) × IsNewName name (names_of sig)

  -- the word is a symbol that is declared like this
  abbrev pub IsSymbol : List ℕ → SymInfo → Type 0
  IsSymbol name i = (f : ℕ) × (slice_get (names_of sig) f ≡ Some name) × (info_of sig f ≡ Some i)

  -- the term's root is a symbol with this result
  abbrev pub HasResult : RawTree → SortId → Type 0
  HasResult (word name at args) s = (i : SymInfo) × IsSymbol name i × (i.result ≡ s)

  abbrev mutual
    -- in the term the variable occurs as an argument, at a place of this sort
    pub IsTaken : List ℕ → SortId → RawTree → Type 0
    IsTaken x s (word name at args) = (i : SymInfo) × IsSymbol name i × IsAnyTaken x s args i.args

    -- it is one of these terms at places of these sorts, at one of this sort, or occurs so in one of them
    pub IsAnyTaken : List ℕ → SortId → RawTrees → List SortId → Type 0
    IsAnyTaken x s (more_raws t ts) (u ∷ us) =
        (IsBareVariable x t × (u ≡ s)) ⊎ (IsTaken x s t ⊎ IsAnyTaken x s ts us)
    IsAnyTaken x s (more_raws t ts) [] = ⊥
    IsAnyTaken x s no_raws us = ⊥

  module _ (goal : RawGoal) where
    -- one of the goal's equations
    abbrev pub IsEquation : RawEq → Type 0
    IsEquation e = Contains (goal.premises ++ goal.conclusions) e

    -- the variable gets the sort: the least relation that these rules allow
    pub data Gets : List ℕ → SortId → Type 0 where
      -- a binding says so
      bound : {x : List ℕ} {s : SortId} (b : RawBind) → Contains goal.binds b → b.name.name ≡ x
          → SortStands sig.sorts b.sort s → Gets x s
      -- it is an argument at a place of the sort
      left_argument : {x : List ℕ} {s : SortId} (e : RawEq) → IsEquation e → IsTaken x s e.left
          → Gets x s
      right_argument : {x : List ℕ} {s : SortId} (e : RawEq) → IsEquation e → IsTaken x s e.right
          → Gets x s
      -- it is equated to a term that has the sort and is no variable
      left_side : {x : List ℕ} {s : SortId} (e : RawEq) → IsEquation e → IsBareVariable x e.left
          → HasResult e.right s → Gets x s
      right_side : {x : List ℕ} {s : SortId} (e : RawEq) → IsEquation e → IsBareVariable x e.right
          → HasResult e.left s → Gets x s
      -- it is equated to a variable that gets the sort
      as_right : {x y : List ℕ} {s : SortId} (e : RawEq) → IsEquation e → IsBareVariable x e.left
          → IsBareVariable y e.right → Gets y s → Gets x s
      as_left : {x y : List ℕ} {s : SortId} (e : RawEq) → IsEquation e → IsBareVariable x e.left
          → IsBareVariable y e.right → Gets x s → Gets y s
