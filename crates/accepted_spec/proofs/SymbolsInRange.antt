-- Sorted terms have symbols of the signature, so that they can be printed.
use Rattle.std.proofs.Common.{◌≡◌, ℕ, zero, suc, ◌<◌, List, [], ◌∷◌, Some, None, arith, length}
use Rattle.std.specs.Prelude.{slice_get, option_map}
use Rattle.std.specs.List.{AllByRecursion}
use Rattle.term_core.specs.Tree.{Tree, Trees, var, app, none, some, trees_of}
use Rattle.term_core.specs.declared.ids.SortId.{SortId}
use Rattle.spec_core.specs.declared.records.SymInfo.{SymInfo}
use Rattle.spec_core.specs.Sig.{Sig}
use Rattle.spec_core.specs.Sorts.{Sorted, SortedAll}
use Rattle.spec_core.specs.TermText.{SymbolsAreInRange, AllSymbolsAreInRange}

-- a declared symbol is in range
pub symbol_in_range :
    (table : List (List ℕ × SymInfo)) (f : ℕ) (i : SymInfo) →
    option_map (λ (e : List ℕ × SymInfo). e.1) (slice_get table f) ≡ Some i → f < length table
symbol_in_range [] f i e = absurd (let q : None ≡ Some i = e in cc)
symbol_in_range (e ∷ table) zero i h = omega arith
symbol_in_range (e ∷ table) (suc f) i h = omega (arith, symbol_in_range table f i h)

-- values have symbols of the signature
mutual
  pub sorted_in_range :
      (sig : Sig) (ctx : List SortId) (t : Tree) (s : SortId) → Sorted sig ctx t s →
      SymbolsAreInRange sig t
  sorted_in_range sig ctx (var n) s p = tt
  sorted_in_range sig ctx (app f ts) s p =
      (symbol_in_range sig.table f p.0 p.1, all_in_range sig ctx ts p.0.args p.3)

  all_in_range :
      (sig : Sig) (ctx : List SortId) (ts : Trees) (ss : List SortId) → SortedAll sig ctx ts ss →
      AllSymbolsAreInRange sig ts
  all_in_range sig ctx none ss p = tt
  all_in_range sig ctx (some t ts) [] p = absurd p
  all_in_range sig ctx (some t ts) (s ∷ ss) p =
      (sorted_in_range sig ctx t s p.0, all_in_range sig ctx ts ss p.1)

-- so are those that a fault names
pub values_in_range :
    (sig : Sig) (values : List Tree) (ss : List SortId) → SortedAll sig [] (trees_of values) ss →
    AllByRecursion (SymbolsAreInRange sig) values
values_in_range sig [] ss p = tt
values_in_range sig (v ∷ values) [] p = absurd p
values_in_range sig (v ∷ values) (s ∷ ss) p =
    (sorted_in_range sig [] v s p.0, values_in_range sig values ss p.1)
