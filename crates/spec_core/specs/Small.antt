-- Values of few symbols.
use Rattle.std.specs.Prelude.{◌≡◌, ℕ, ◌<◌, ◌≤◌, List, [], ◌∷◌, Some, length}
use Rattle.term_core.specs.Tree.{Tree, Trees, var, app, none, some, tree_size}
use Rattle.term_core.specs.declared.ids.SortId.{SortId}
use Rattle.spec_core.specs.declared.records.SymInfo.{SymInfo}
use Rattle.spec_core.specs.Sig.{Sig, info_of, IsSort}
use Rattle.spec_core.specs.Sorts.{IsValue}

abbrev pub sort_of_number : ℕ → SortId
sort_of_number n = record { 0 = n }

module _ (sig : Sig) where
  -- some value of the sort has at most 255 symbols
  abbrev pub HasSmallValue : SortId → Type 0
  HasSmallValue s = (v : Tree) × IsValue sig s v × (tree_size v ≤ 255)

  -- the first sort with no value of at most 255 symbols
  pub record IsFirstWithout (s : SortId) : Type 0 where
    pub in_range : IsSort sig s
    pub has_none : HasSmallValue s → ⊥
    pub before : (n : ℕ) → n < s.0 → HasSmallValue (sort_of_number n)

  -- each sort has a value of at most 255 symbols
  abbrev pub AllHaveSmallValues : Type 0
  AllHaveSmallValues = (n : ℕ) → n < length sig.sorts → HasSmallValue (sort_of_number n)

  -- the fewest symbols of a value of the sort
  abbrev pub IsLeast : SortId → ℕ → Type 0
  IsLeast s n = ((v : Tree) × IsValue sig s v × (tree_size v ≡ n))
      × ((v : Tree) → IsValue sig s v → n ≤ tree_size v)

  -- some application of the constructor is a value of the sort with this many symbols
  abbrev pub Makes : ℕ → SortId → ℕ → Type 0
  Makes c s n = (ts : Trees) × IsValue sig s (app c ts) × (tree_size (app c ts) ≡ n)

  -- the first constructor of which some application has the fewest symbols
  abbrev pub IsFirstMaker : ℕ → SortId → Type 0
  IsFirstMaker c s = (n : ℕ) × IsLeast s n × Makes c s n × ((d : ℕ) → d < c → Makes d s n → ⊥)

  -- the small value of a sort: that constructor, applied to the small values of its argument sorts
  abbrev mutual
    pub IsSmall : SortId → Tree → Type 0
    IsSmall s (var n) = ⊥
    IsSmall s (app c ts) =
        IsFirstMaker c s × ((i : SymInfo) × (info_of sig c ≡ Some i) × AreSmall i.args ts)

    pub AreSmall : List SortId → Trees → Type 0
    AreSmall [] none = Unit {0}
    AreSmall (s ∷ ss) (some t ts) = IsSmall s t × AreSmall ss ts
    AreSmall [] (some t ts) = ⊥
    AreSmall (s ∷ ss) none = ⊥
