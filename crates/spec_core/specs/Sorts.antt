-- Sorts of terms, and values.
use Rattle.std.specs.Prelude.{◌≡◌, List, [], ◌∷◌, Some, slice_get}
use Rattle.term_core.specs.Tree.{Tree, Trees, var, app, none, some}
use Rattle.term_core.specs.declared.ids.SortId.{SortId}
use Rattle.spec_core.specs.declared.records.SymInfo.{SymInfo}
use Rattle.spec_core.specs.Sig.{Sig, info_of, IsConstructor}

module _ (sig : Sig) where
  -- a term has a sort, where the variables have the sorts of ctx
  abbrev mutual
    pub Sorted : List SortId → Tree → SortId → Type 0
    Sorted ctx (var n) s = slice_get ctx n ≡ Some s
    Sorted ctx (app f ts) s =
        (i : SymInfo) × (info_of sig f ≡ Some i) × (i.result ≡ s) × SortedAll ctx ts i.args

    pub SortedAll : List SortId → Trees → List SortId → Type 0
    SortedAll ctx none [] = Unit {0}
    SortedAll ctx (some t ts) (s ∷ ss) = Sorted ctx t s × SortedAll ctx ts ss
    SortedAll ctx none (s ∷ ss) = ⊥
    SortedAll ctx (some t ts) [] = ⊥

  -- each symbol of the term is a constructor, and it has no variable
  abbrev mutual
    pub IsBuilt : Tree → Type 0
    IsBuilt (var n) = ⊥
    IsBuilt (app f ts) = IsConstructor sig f × AreBuilt ts

    pub AreBuilt : Trees → Type 0
    AreBuilt none = Unit {0}
    AreBuilt (some t ts) = IsBuilt t × AreBuilt ts

  -- a value of a sort
  abbrev pub IsValue : SortId → Tree → Type 0
  IsValue s t = Sorted [] t s × IsBuilt t
