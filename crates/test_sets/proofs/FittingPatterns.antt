-- When terms are patterns for a variable: what the test asks is what is said of them.
use Rattle.std.proofs.Common.{◌≡◌, ◌↔◌, Bool, true, false, IsTrue, is_some, Option, ℕ, zero, suc, ◌+◌, ◌≤◌, List, []}
use Rattle.std.proofs.Common.{◌∷◌, ◌++◌, Some, None, length, refl, ap, sym, ◌∙◌, subst, arith}
use Rattle.std.specs.Prelude.{MatchOption, slice_get, option_map}
use Rattle.std.specs.List.{AllByRecursion, range_with_len, AllZip}
use Rattle.std.proofs.lemmas.List.{length-append}
use Rattle.std.proofs.lemmas.Option.{slice_get_past}
use Rattle.std.proofs.lemmas.List.FromFn.{length-range_with_len}
use Rattle.term_core.specs.Tree.{Tree, Trees, app, none, some}
use Rattle.term_core.specs.Variables.{occurrences, occurrences_all}
use Rattle.term_core.specs.declared.ids.SortId.{SortId}
use Rattle.spec_core.specs.declared.records.SymInfo.{SymInfo}
use Rattle.spec_core.specs.Sig.{Sig}
use Rattle.spec_core.specs.Sorts.{Sorted}
use Rattle.clause_core.specs.declared.clauses.Clause.{Clause}
use Rattle.clause_core.specs.Patterns.{IsPatternOf}
use Rattle.clause_core.specs.Covering.{ArePatternsFor}
use Rattle.test_sets.specs.Children.{args_of, sorts_in, all_sorts_in, IsSomePattern}
use Rattle.test_sets.specs.Numbering.{IsNumbered, AreNumbered}
use Rattle.test_sets.proofs.PatternSorts.{pattern_sorts, occurring_count}
use Rattle.test_sets.proofs.LinearPatterns.{both_ranges}
use Rattle.test_sets.proofs.CoveredValues.{some_patterns}

-- a symbol past the last one asks for no arguments
no_sorts_asked : (sig : Sig) (ts : Trees) → all_sorts_in sig [] ts ≡ []
no_sorts_asked sig none = refl
no_sorts_asked sig (some t ts) = refl

pub undeclared : (sig : Sig) (s : SortId) (f : ℕ) (ts : Trees) → length sig.table ≤ f → sorts_in sig s (app f ts) ≡ []
undeclared sig s f ts h =
    ap (λ o. all_sorts_in sig (args_of (option_map (λ (e : List ℕ × SymInfo). e.1) o)) ts)
    (slice_get_past sig.table f h)
    ∙ no_sorts_asked sig ts

range_both : (from count more : ℕ) → range_with_len from (count + more) ≡ range_with_len from count
    ++ range_with_len (from + count) more
range_both from zero more =
    let n : 0 + more ≡ more = omega arith in
    let k : from + 0 ≡ from = omega arith in
    λ i. range_with_len (sym k i) (n i)
range_both from (suc count) more =
    let n : suc count + more ≡ suc (count + more) = omega arith in
    let k : (from + 1) + count ≡ from + suc count = omega arith in
    ap (λ m. range_with_len from m) n ∙ ap (λ ns. from ∷ ns) (range_both (from + 1) count more
    ∙ ap (λ m. range_with_len (from + 1) count ++ range_with_len m more) k)

module _ (sig : Sig) where
  pub numbered_first : (from : ℕ) (t : Tree) (ts : Trees) → AreNumbered sig from (some t ts) → IsNumbered sig from t
  numbered_first from t ts h = (h.0.0, (both_ranges (occurrences t) (occurrences_all ts) from _ h.1).0)

  pub numbered_rest : (from next : ℕ) (t : Tree) (ts : Trees) → next ≡ from + length (occurrences t) →
      AreNumbered sig from (some t ts) → AreNumbered sig next ts
  numbered_rest from next t ts e h = (
    h.0.1,
    (both_ranges (occurrences t) (occurrences_all ts) from _ h.1).1
        ∙ ap (λ k. range_with_len k (length (occurrences_all ts))) (sym e),
  )

  pub numbered_both :
      (from next : ℕ) (t : Tree) (ts : Trees) → next ≡ from + length (occurrences t) → IsNumbered sig from t →
      AreNumbered sig next ts →
      AreNumbered sig from (some t ts)
  numbered_both from next t ts e p q =
      let a : ℕ = length (occurrences t) in
      let b : ℕ = length (occurrences_all ts) in
      let first = p.1 in
      let rest = q.1 ∙ ap (λ k. range_with_len k b) e in (
        (p.0, q.0),
        (λ i. first i ++ rest i) ∙ sym (range_both from a b)
            ∙ ap (λ k. range_with_len from k) (sym (length-append (occurrences t) (occurrences_all ts))),
      )

  -- what is found after the first term is found of all
  pub next_numbered :
      (from next : ℕ) (t : Tree) (ts : Trees) (found : Option ℕ) → next ≡ from + length (occurrences t) →
      IsNumbered sig from t →
      MatchOption found (AreNumbered sig next ts → ⊥) (λ end. AreNumbered sig next ts
      × (end ≡ next + length (occurrences_all ts))) →
      MatchOption found (AreNumbered sig from (some t ts) → ⊥) (λ end. AreNumbered sig from (some t ts)
      × (end ≡ from + length (occurrences_all (some t ts))))
  next_numbered from next t ts None e first h = λ all. h (numbered_rest from next t ts e all)
  next_numbered from next t ts (Some end) e first h = (
    numbered_both from next t ts e first h.0,
    omega (arith, e, h.1, length-append (occurrences t) (occurrences_all ts)),
  )

  -- a sorted term whose variables are numbered from 0 on is a pattern over the sorts of their places
  pub fitting : (s : SortId) (p : Tree) (ctx : List SortId) → ctx ≡ sorts_in sig s p → Sorted sig ctx p s →
      IsNumbered sig 0 p → IsSomePattern sig s p
  fitting s p ctx e sorted numbered = (
    ctx,
    record {
      sorted = sorted;
      pattern = numbered.0;
      numbered = numbered.1
          ∙ ap (λ k. range_with_len 0 k)
          (sym (ap (λ (ss : List SortId). length ss) e ∙ occurring_count sig ctx p s sorted));
    },
  )

  pub fits_sorted : (s : SortId) (p : Tree) (ctx : List SortId) → ctx ≡ sorts_in sig s p →
      IsSomePattern sig s p → Sorted sig ctx p s
  fits_sorted s p ctx e is = subst (λ ss. Sorted sig ss p s) (sym (e ∙ pattern_sorts sig s is.0 p is.1)) is.1.sorted

  pub fits_numbered : (s : SortId) (p : Tree) → IsSomePattern sig s p → IsNumbered sig 0 p
  fits_numbered s p is =
      let count : length (occurrences p) ≡ length is.0 = ap (λ (ns : List ℕ). length ns) is.1.numbered
      ∙ length-range_with_len 0 (length is.0) in
      (is.1.pattern, is.1.numbered ∙ ap (λ k. range_with_len 0 k) (sym count))

  -- what is answered if the term has the sort, and if it hasn't
  pub decided :
      (s : SortId) (p : Tree) (ctx : List SortId) → ctx ≡ sorts_in sig s p → Sorted sig ctx p s →
      (found : Option ℕ) → MatchOption found (IsNumbered sig 0 p → ⊥) (λ end. IsNumbered sig 0 p
      × (end ≡ 0 + length (occurrences p))) →
      (r : Bool) → r ≡ is_some found → IsTrue r ↔ IsSomePattern sig s p
  decided s p ctx e sorted None h r is = (
    (λ t. absurd (let q : true ≡ false = sym t ∙ is in cc)),
    (λ fits. absurd (h (fits_numbered s p fits))),
  )
  decided s p ctx e sorted (Some end) h r is = ((λ t. fitting s p ctx e sorted h.0), (λ fits. is))

  pub refused :
      (s : SortId) (p : Tree) (ctx : List SortId) → ctx ≡ sorts_in sig s p → (Sorted sig ctx p s → ⊥) →
      (r : Bool) → r ≡ false → IsTrue r ↔ IsSomePattern sig s p
  refused s p ctx e unsorted r is = (
    (λ t. absurd (let q : true ≡ false = sym t ∙ is in cc)),
    (λ fits. absurd (unsorted (fits_sorted s p ctx e fits))),
  )

  contexts_of : (s : SortId) (ps : List Tree) → AllByRecursion (IsSomePattern sig s) ps →
      (contexts : List (List SortId)) × AllZip (IsPatternOf sig s) contexts ps
  contexts_of s [] h = ([], tt)
  contexts_of s (p ∷ ps) h =
      let rest = contexts_of s ps h.1 in
      (h.0.0 ∷ rest.0, (h.0.1, rest.1))

  pub patterns_fit : (c : Clause) (n : ℕ) (s : SortId) (ps : List Tree) → slice_get c.ctx n ≡ Some s →
      AllByRecursion (IsSomePattern sig s) ps → ArePatternsFor sig c n ps
  patterns_fit c n s ps at h =
      let found = contexts_of s ps h in
      record { sort = s; is = at; contexts = found.0; each = found.1 }

  pub fits_each : (c : Clause) (n : ℕ) (s : SortId) (ps : List Tree) → slice_get c.ctx n ≡ Some s →
      ArePatternsFor sig c n ps → AllByRecursion (IsSomePattern sig s) ps
  fits_each c n s ps at are =
      let both : Some s ≡ Some are.sort = sym at ∙ are.is in
      let same : s ≡ are.sort = cc in
      subst (λ r. AllByRecursion (IsSomePattern sig r) ps) (sym same)
      (some_patterns sig are.sort are.contexts ps are.each)
