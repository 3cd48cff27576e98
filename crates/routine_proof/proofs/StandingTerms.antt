-- Sorted terms may appear in a report if the names of the symbols may, and so may test sets and
-- paths.
use Rattle.std.proofs.Common.{◌≡◌, ℕ, zero, suc, ◌+◌, ◌<◌, ◌≤◌, List, [], ◌∷◌, Some, None, map, length, refl, ap, sym}
use Rattle.std.proofs.Common.{◌∙◌, subst, arith}
use Rattle.std.specs.Prelude.{slice_get, option_map}
use Rattle.std.specs.List.{AllByRecursion, range_with_len, AllZip}
use Rattle.std.proofs.lemmas.List.FromFn.{length-range_with_len}
use Rattle.std.proofs.lemmas.Option.{slice_get_within, slice_get-map}
use Rattle.term_core.specs.Tree.{Tree, Trees, var, app, none, some, trees_of, list_of, tree_depth, depths}
use Rattle.term_core.specs.Places.{IsAt}
use Rattle.term_core.specs.Variables.{occurrences}
use Rattle.term_core.specs.declared.ids.SortId.{SortId}
use Rattle.term_core.proofs.Items.{all_at}
use Rattle.spec_core.specs.declared.records.SymInfo.{SymInfo}
use Rattle.spec_core.specs.Order.{constructors_of}
use Rattle.spec_core.specs.Sig.{Sig, info_of, names_of}
use Rattle.spec_core.specs.Sorts.{Sorted, SortedAll}
use Rattle.spec_core.specs.WellSorted.{HasFewArguments}
use Rattle.spec_core.proofs.Constructors.{info_parts}
use Rattle.clause_core.specs.Instances.{variables}
use Rattle.clause_core.specs.Patterns.{IsPatternOf}
use Rattle.proof_script.specs.Names.{IsReportName}
use Rattle.proof_script.specs.Standing.{IsShort, Between, SymbolStands, SymbolsStand, AllSymbolsStand, TermStands}
use Rattle.proof_script.specs.Standing.{PatternStands}
use Rattle.test_sets.specs.TestSets.{applied, test_set_of}
use Rattle.test_sets.proofs.SortConstructors.{IsOneOf, each_of_sort, test_set_patterns}

module _ (sig : Sig) (ctx : List SortId) where
  argument_sorted :
      (ts : Trees) (ss : List SortId) → SortedAll sig ctx ts ss → (k : ℕ) (t : Tree) →
      slice_get (list_of ts) k ≡ Some t → (s : SortId) × Sorted sig ctx t s × (k < length ss)
  argument_sorted none ss h k t at = absurd (let q : None ≡ Some t = at in cc)
  argument_sorted (some u ts) [] h k t at = absurd h
  argument_sorted (some u ts) (s ∷ ss) h zero t at =
      let q : Some u ≡ Some t = at in
      let e : u ≡ t = cc in
      (s, subst (λ v. Sorted sig ctx v s) e h.0, omega arith)
  argument_sorted (some u ts) (s ∷ ss) h (suc k) t at =
      let r = argument_sorted ts ss h.1 k t at in
      (r.0, r.1, omega (arith, r.2))

  -- each argument number on the way to a place of a sorted term has one digit
  pub path_stands :
      HasFewArguments sig → (p : List ℕ) (t u : Tree) (s : SortId) →
      IsAt p t u → Sorted sig ctx t s → AllByRecursion (Between 1 9) p
  path_stands few [] t u s at h = tt
  path_stands few (j ∷ p) (var m) u s at h = absurd at
  path_stands few (j ∷ p) (app f ts) u s (t, (k, counts, get), rest) h =
      let a = argument_sorted ts h.0.args h.3 k t get in
      let one : 1 ≤ j = omega (arith, counts) in
      let nine : j ≤ 9 = omega (arith, counts, a.2, few f h.0 h.1) in
      ((one, nine), path_stands few p t u a.0 rest a.1)

module _ (sig : Sig) (names : AllByRecursion IsReportName (names_of sig)) where
  symbol_stands :
      (f : ℕ) (i : SymInfo) (arity : ℕ) →
      info_of sig f ≡ Some i → length i.args ≡ arity → SymbolStands sig f arity
  symbol_stands f i arity at few =
      let e = info_parts sig.table f i at in
      let named : slice_get (names_of sig) f ≡ Some e.0.0 =
      slice_get-map (λ (x : List ℕ × SymInfo). x.0) sig.table f
      ∙ ap (λ o. option_map (λ (x : List ℕ × SymInfo). x.0) o) e.1 in (
        e.0.0,
        i,
        e.1 ∙ ap (λ (j : SymInfo). Some (e.0.0, j)) e.2,
        few,
        all_at IsReportName (names_of sig) names f e.0.0 named,
      )

  module _ (ctx : List SortId) (short : IsShort (length ctx)) where
    as_many :
        (ts : Trees) (ss : List SortId) → SortedAll sig ctx ts ss → length ss ≡ length (list_of ts)
    as_many none [] p = refl
    as_many none (s ∷ ss) p = absurd p
    as_many (some t ts) [] p = absurd p
    as_many (some t ts) (s ∷ ss) p = ap (λ n. suc n) (as_many ts ss p.1)

    mutual
      symbols_stand : (t : Tree) (s : SortId) → Sorted sig ctx t s → SymbolsStand sig t
      symbols_stand (var n) s p =
          let below = slice_get_within ctx n s p in
          omega (arith, below, short)
      symbols_stand (app f ts) s p = (
        symbol_stands f p.0 (length (list_of ts)) p.1 (as_many ts p.0.args p.3),
        all_symbols_stand ts p.0.args p.3,
      )

      all_symbols_stand :
          (ts : Trees) (ss : List SortId) → SortedAll sig ctx ts ss → AllSymbolsStand sig ts
      all_symbols_stand none ss p = tt
      all_symbols_stand (some t ts) [] p = absurd p
      all_symbols_stand (some t ts) (s ∷ ss) p =
          (symbols_stand t s p.0, all_symbols_stand ts ss p.1)

    pub terms_stand :
        (ts : List Tree) (ss : List SortId) → SortedAll sig ctx (trees_of ts) ss →
        ((k : ℕ) (t : Tree) → slice_get ts k ≡ Some t → tree_depth t ≤ 100) →
        AllByRecursion (TermStands sig) ts
    terms_stand [] ss p shallow = tt
    terms_stand (t ∷ ts) [] p shallow = absurd p
    terms_stand (t ∷ ts) (s ∷ ss) p shallow = (
      record { symbols = symbols_stand t s p.0; depth = shallow 0 t refl },
      terms_stand ts ss p.1 (λ k u at. shallow (suc k) u at),
    )

  variables_shallow : (from count : ℕ) → depths (trees_of (variables from count)) ≤ 1
  variables_shallow from zero = omega arith
  variables_shallow from (suc count) = omega (arith, variables_shallow (from + 1) count)

  module _ (few : HasFewArguments sig) (s : SortId) where
    pattern_stands :
        (c : ℕ × List SortId) → IsOneOf sig s c → IsPatternOf sig s c.1 (applied c) →
        PatternStands sig (applied c)
    pattern_stands c is p =
        let count = few c.0 is.info is.at in
        let same = ap (λ (ss : List SortId). length ss) is.args in
        let long : length (occurrences (applied c)) ≡ length c.1 =
        ap (λ (ns : List ℕ). length ns) p.numbered ∙ length-range_with_len 0 (length c.1) in
        record {
          stands = record {
            symbols = symbols_stand c.1 (omega (arith, count, same)) (applied c) s p.sorted;
            depth = omega (arith, variables_shallow 0 (length c.1));
          };
          numbered = p.numbered ∙ ap (λ n. range_with_len 0 n) (sym long);
        }

    patterns_stand :
        (cs : List (ℕ × List SortId)) → AllByRecursion (IsOneOf sig s) cs →
        AllZip (IsPatternOf sig s) (map (λ (c : ℕ × List SortId). c.1) cs) (map applied cs) →
        AllByRecursion (PatternStands sig) (map applied cs)
    patterns_stand [] is p = tt
    patterns_stand (c ∷ cs) is p = (pattern_stands c is.0 p.0, patterns_stand cs is.1 p.1)

    pub test_set_stands : AllByRecursion (PatternStands sig) (test_set_of sig s)
    test_set_stands =
        patterns_stand (constructors_of sig s) (each_of_sort sig s) (test_set_patterns sig s)
