-- Values of a goal's variables may appear in a report, if the names of their symbols may.
use Rattle.std.proofs.Common.{◌≡◌, ℕ, zero, suc, ◌≤◌, List, [], ◌∷◌, Some, None, refl, ap, length}
use Rattle.std.specs.Prelude.{slice_get, option_map, map}
use Rattle.std.specs.List.{AllByRecursion}
use Rattle.term_core.specs.Tree.{Tree, Trees, var, app, none, some, list_of, tree_depth}
use Rattle.term_core.specs.declared.ids.SortId.{SortId}
use Rattle.spec_core.specs.declared.records.Spec.{Spec}
use Rattle.spec_core.specs.declared.records.SymInfo.{SymInfo}
use Rattle.spec_core.specs.declared.records.VarInfo.{VarInfo}
use Rattle.spec_core.specs.Sig.{Sig, names_of}
use Rattle.spec_core.specs.Sorts.{Sorted, SortedAll, IsBuilt, AreBuilt, IsValue}
use Rattle.spec_core.specs.TermText.{variable_names}
use Rattle.spec_core.specs.Truth.{AreValuesOf}
use Rattle.spec_core.specs.WellSorted.{sorts_of}
use Rattle.proof_script.specs.Names.{IsReportName}
use Rattle.proof_script.specs.Reports.{IsClosed, AllAreClosed, ValueStands}
use Rattle.proof_script.specs.Standing.{SymbolsStand, AllSymbolsStand}
use Rattle.search_claims.specs.Claims.{named}

-- a declared symbol with its name
entry_at : (table : List (List ℕ × SymInfo)) (f : ℕ) (i : SymInfo) →
    AllByRecursion IsReportName (map (λ (e : List ℕ × SymInfo). e.0) table) →
    option_map (λ (e : List ℕ × SymInfo). e.1) (slice_get table f) ≡ Some i →
    (name : List ℕ) × (slice_get table f ≡ Some (name, i)) × IsReportName name
entry_at [] f i a e = absurd (let q : None ≡ Some i = e in cc)
entry_at (x ∷ table) zero i a e =
    let q : Some x.1 ≡ Some i = e in
    let k : x.1 ≡ i = cc in
    (x.0, ap (λ j. Some (x.0, j)) k, a.0)
entry_at (x ∷ table) (suc f) i a e = entry_at table f i a.1 e

module _ (sig : Sig) (names : AllByRecursion IsReportName (names_of sig)) where
  sorted_length : (ts : Trees) (ss : List SortId) → SortedAll sig [] ts ss → length ss ≡ length (list_of ts)
  sorted_length none [] h = refl
  sorted_length none (s ∷ ss) h = absurd h
  sorted_length (some t ts) [] h = absurd h
  sorted_length (some t ts) (s ∷ ss) h = ap (λ n. suc n) (sorted_length ts ss h.1)

  mutual
    symbols_stand : (t : Tree) (s : SortId) → Sorted sig [] t s → SymbolsStand sig t
    symbols_stand (var n) s p = absurd (let q : None ≡ Some s = p in cc)
    symbols_stand (app f ts) s p =
        let e = entry_at sig.table f p.0 names p.1 in
        ((e.0, p.0, e.1, sorted_length ts p.0.args p.3, e.2), all_symbols_stand ts p.0.args p.3)

    all_symbols_stand : (ts : Trees) (ss : List SortId) → SortedAll sig [] ts ss → AllSymbolsStand sig ts
    all_symbols_stand none ss p = tt
    all_symbols_stand (some t ts) [] p = absurd p
    all_symbols_stand (some t ts) (s ∷ ss) p = (symbols_stand t s p.0, all_symbols_stand ts ss p.1)

  mutual
    is_closed : (t : Tree) → IsBuilt sig t → IsClosed sig t
    is_closed (var n) p = p
    is_closed (app f ts) p = (p.0, all_are_closed ts p.1)

    all_are_closed : (ts : Trees) → AreBuilt sig ts → AllAreClosed sig ts
    all_are_closed none p = tt
    all_are_closed (some t ts) p = (is_closed t p.0, all_are_closed ts p.1)

  -- a value with the name of its variable
  pub value_stands : (name : List ℕ) (t : Tree) (s : SortId) → IsReportName name → IsValue sig s t →
      tree_depth t ≤ 100 → ValueStands sig (name, t)
  value_stands name t s n v d = record {
    name = n;
    stands = record { symbols = symbols_stand t s v.0; depth = d };
    closed = is_closed t v.1;
  }

-- values with the names of their variables
pub values_stand : (spec : Spec) → AllByRecursion IsReportName (names_of spec.sig) →
    (vars : List VarInfo) (values : List Tree) → AllByRecursion IsReportName (variable_names vars) →
    AreValuesOf spec (sorts_of vars) values → AllByRecursion (λ t. tree_depth t ≤ 100) values →
    AllByRecursion (ValueStands spec.sig) (named vars values)
values_stand spec names [] values n v d = tt
values_stand spec names (x ∷ vars) [] n v d = tt
values_stand spec names (x ∷ vars) (t ∷ values) n v d =
    (value_stands spec.sig names x.name t x.sort n.0 v.0 d.0, values_stand spec names vars values n.1 v.1 d.1)
