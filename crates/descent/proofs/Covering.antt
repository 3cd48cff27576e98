-- One step of descent for `cover`: the value of a variable is an instance of some pattern.
use Rattle.std.proofs.Common.{◌≡◌, ◌≢◌, ◌⊎◌, ℕ, zero, suc, ◌+◌, ◌<◌, List, [], ◌∷◌, ◌++◌, Some, map, inl, inr, refl}
use Rattle.std.proofs.Common.{ap, sym, ◌∙◌, subst, arith, length}
use Rattle.std.specs.Prelude.{slice_get, slice_set, slice_index_or, zip, Any, IsPermutation}
use Rattle.std.specs.List.{range_with_len, AllZip}
use Rattle.std.proofs.lemmas.List.FromFn.{get_or-map-range_with_len}
use Rattle.std.proofs.lemmas.List.Sorted.{IsPermutation-refl}
use Rattle.std.proofs.lemmas.Option.{slice_get_within}
use Rattle.std.proofs.lemmas.List.{get_or_append_left}
use Rattle.term_core.specs.declared.ids.SortId.{SortId}
use Rattle.term_core.specs.Tree.{Tree, Trees, var, app, none, some, instance, instances}
use Rattle.term_core.specs.Variables.{occurrences, occurrences_all}
use Rattle.term_core.proofs.Members.{In}
use Rattle.spec_core.specs.declared.records.Spec.{Spec}
use Rattle.spec_core.specs.declared.records.SymInfo.{SymInfo}
use Rattle.spec_core.specs.Sig.{Sig}
use Rattle.spec_core.specs.Sorts.{Sorted, SortedAll, AreBuilt, IsValue}
use Rattle.spec_core.specs.Truth.{AreValuesOf}
use Rattle.spec_core.specs.WellSorted.{IsWellSorted}
use Rattle.term_order.specs.Laws.{HasRanks}
use Rattle.clause_core.specs.declared.clauses.Clause.{Clause}
use Rattle.clause_core.specs.declared.clauses.Relation.TheVariants.{Same}
use Rattle.clause_core.specs.Clauses.{sides, ClauseIsSorted}
use Rattle.clause_core.specs.Patterns.{IsPatternOf, IsInstanceOf, AreCovering}
use Rattle.clause_core.specs.Covering.{ArePatternsFor, covered_by}
use Rattle.clause_core.specs.Instances.{variables}
use Rattle.clause_core.specs.Tidied.{variables_of, tidied}
use Rattle.clause_core.specs.Failing.{ClauseFails, values_at}
use Rattle.clause_core.proofs.OneCovering.{in_range}
use Rattle.clause_core.proofs.Multisets.{in_either}
use Rattle.descent.specs.Descent.{GoesTo}
use Rattle.descent.proofs.Closers.{value_of}
use Rattle.descent.proofs.SortedEquations.{each_sorted}
use Rattle.descent.proofs.TidiedWeights.{tidied_fails, tidied_weight}
use Rattle.descent.proofs.Environments.{clause_under, instance_under}
use Rattle.descent.proofs.SideRanks.{ranks_one}
use Rattle.descent.proofs.Removing.{sides_grounded}
use Rattle.descent.proofs.Solving.{instance_after, holds_after, broken_after, weight_of}
use Rattle.descent.proofs.SortedInstances.{set_at}
use Rattle.descent.proofs.MadeSorted.{covered_made}

-- if a pattern has an instance that is a value, each of its variables has a value of its sort
mutual
  part_value : (sig : Sig) (ctx : List SortId) (ts : List Tree) (p : Tree) (s : SortId) → Sorted sig ctx p s →
      IsValue sig s (instance ts p) → (n : ℕ) → In n (occurrences p) → (r : SortId) → slice_get ctx n ≡ Some r →
      IsValue sig r (instance ts (var n))
  part_value sig ctx ts (var m) s a v n (inl e) r g =
      let q : Some s ≡ Some r = sym a ∙ ap (λ k. slice_get ctx k) (sym e) ∙ g in
      let k : s ≡ r = cc in
      subst (λ z. IsValue sig z (instance ts (var n))) k (subst (λ z. IsValue sig s (instance ts (var z))) (sym e) v)
  part_value sig ctx ts (var m) s a v n (inr e) r g = absurd e
  part_value sig ctx ts (app f us) s a v n i r g =
      let q : Some a.0 ≡ Some v.0.0 = sym a.1 ∙ v.0.1 in
      let k : a.0 ≡ v.0.0 = cc in
      part_values sig ctx ts us a.0.args a.3 (subst (λ (x : SymInfo). SortedAll sig [] (instances ts us) x.args)
      (sym k) v.0.3) v.1.1 n i r g

  part_values : (sig : Sig) (ctx : List SortId) (ts : List Tree) (us : Trees) (ss : List SortId) →
      SortedAll sig ctx us ss → SortedAll sig [] (instances ts us) ss → AreBuilt sig (instances ts us) →
      (n : ℕ) → In n (occurrences_all us) → (r : SortId) → slice_get ctx n ≡ Some r →
      IsValue sig r (instance ts (var n))
  part_values sig ctx ts none ss a v b n i r g = absurd i
  part_values sig ctx ts (some u us) [] a v b n i r g = absurd a
  part_values sig ctx ts (some u us) (s ∷ ss) a v b n i r g = elim
      (in_either n (occurrences u) (occurrences_all us) i) [
        | inl h ↦ part_value sig ctx ts u s a.0 (
          v.0,
          b.0,
        ) n h r g
        | inr h ↦ part_values sig ctx ts us ss a.1 v.1 b.1 n h r g
      ]

-- what comes after a list
index_right : (xs ys : List Tree) (n m : ℕ) (d : Tree) → m ≡ length xs + n →
    slice_index_or (xs ++ ys) m d ≡ slice_index_or ys n d
index_right [] ys n m d e = let q : m ≡ n = omega (arith, e) in ap (λ k. slice_index_or ys k d) q
index_right (x ∷ xs) ys n zero d e = absurd (omega (arith, e))
index_right (x ∷ xs) ys n (suc m) d e = index_right xs ys n m d (omega (arith, e))

as_many_values : (spec : Spec) (ctx : List SortId) (xs : List Tree) → AreValuesOf spec ctx xs → length xs ≡ length ctx
as_many_values spec [] [] v = refl
as_many_values spec [] (x ∷ xs) v = absurd v
as_many_values spec (s ∷ ss) [] v = absurd v
as_many_values spec (s ∷ ss) (x ∷ xs) v = omega (arith, as_many_values spec ss xs v.1)

values_append : (spec : Spec) (ctx more : List SortId) (xs ws : List Tree) → AreValuesOf spec ctx xs →
    AreValuesOf spec more ws → AreValuesOf spec (ctx ++ more) (xs ++ ws)
values_append spec [] more [] ws v w = w
values_append spec [] more (x ∷ xs) ws v w = absurd v
values_append spec (s ∷ ss) more [] ws v w = absurd v
values_append spec (s ∷ ss) more (x ∷ xs) ws v w = (v.0, values_append spec ss more xs ws v.1 w)

values_from : (spec : Spec) (ctx : List SortId) (f : ℕ → Tree) (from : ℕ) →
    ((n : ℕ) (r : SortId) → slice_get ctx n ≡ Some r → IsValue spec.sig r (f (from + n))) →
    AreValuesOf spec ctx (map f (range_with_len from (length ctx)))
values_from spec [] f from h = tt
values_from spec (s ∷ ss) f from h =
    let z : from + 0 ≡ from = omega arith in (
      subst (λ k. IsValue spec.sig s (f k)) z (h 0 s refl),
      values_from spec ss f (from + 1) (λ n r e. let q : from + suc n ≡ (from + 1) + n = omega arith in
          subst (λ k. IsValue spec.sig r (f k)) q (h (suc n) r e)),
    )

module _ (above : Tree → Tree → Type 0) (rank : ℕ → ℕ → Tree → ℕ → Type 0) (laws : HasRanks above rank)
    (spec : Spec) (fine : IsWellSorted spec) (c : Clause) (sorted : ClauseIsSorted spec.sig c) (xs : List Tree)
    (fails : ClauseFails spec c xs) (x : ℕ) (s : SortId) (is : slice_get c.ctx x ≡ Some s) (more : List SortId)
    (p : Tree) (pattern : IsPatternOf spec.sig s more p) (ts : List Tree)
    (same : instance ts p ≡ instance xs (var x)) where
  -- the values of the pattern's variables
  abbrev news : List Tree
  news = map (λ n. instance ts (var n)) (range_with_len 0 (length more))

  abbrev all : List Tree
  all = xs ++ news

  abbrev fresh : List Tree
  fresh = variables (length c.ctx) (length more)

  abbrev terms : List Tree
  terms = slice_set (variables 0 (length c.ctx)) x (instance fresh p)

  news_are_values : AreValuesOf spec more news
  news_are_values = values_from spec more (λ n. instance ts (var n)) 0 each
    where
      each : (n : ℕ) (r : SortId) → slice_get more n ≡ Some r → IsValue spec.sig r (instance ts (var (0 + n)))
      each n r g =
          let z : 0 + n ≡ n = omega arith in
          let i : In n (occurrences p) = subst (λ ns. In n ns) (sym pattern.numbered)
          (subst (λ k. In k (range_with_len 0 (length more))) z
          (in_range n 0 (length more) (slice_get_within more n r g))) in
          let v : IsValue spec.sig s (instance ts p) = subst (λ t. IsValue spec.sig s t) (sym same)
          (value_of spec c.ctx xs fails.values_fit x s is (var x)) in
          subst (λ k. IsValue spec.sig r (instance ts (var k))) (sym z)
          (part_value spec.sig more ts p s pattern.sorted v n i r g)

  long : length xs ≡ length c.ctx
  long = as_many_values spec c.ctx xs fails.values_fit

  -- a fresh variable
  fresh_is : (n : ℕ) → n < length more → instance fresh (var n) ≡ var (length c.ctx + n)
  fresh_is n l = get_or-map-range_with_len (λ k. var k) (length c.ctx) (length more) n (length c.ctx + n) (var n) l refl

  fresh_value : (n : ℕ) (u : SortId) → slice_get more n ≡ Some u →
      instance all (instance fresh (var n)) ≡ instance ts (var n)
  fresh_value n u g =
      let l : n < length more = slice_get_within more n u g in
      ap (λ t. instance all t) (fresh_is n l)
      ∙ index_right xs news n (length c.ctx + n) (var (length c.ctx + n)) (omega (arith, long))
      ∙ get_or-map-range_with_len (λ k. instance ts (var k)) 0 (length more) n n (var (length c.ctx + n)) l
      (omega arith)

  agrees : (m : ℕ) (u : SortId) → slice_get c.ctx m ≡ Some u →
      instance all (instance terms (var m)) ≡ instance xs (var m)
  agrees m u e = by (set_at (length c.ctx) x (instance fresh p) m (slice_get_within c.ctx m u e))
    where
      by : ((m ≡ x) × (instance terms (var m) ≡ instance fresh p))
          ⊎ ((m ≢ x) × (instance terms (var m) ≡ var m)) → instance all (instance terms (var m)) ≡ instance xs (var m)
      by (inl (q, h)) = ap (λ t. instance all t) h ∙ instance_after spec.sig more fresh ts all fresh_value p s
          pattern.sorted ∙ same ∙ ap (λ k. instance xs (var k)) (sym q)
      by (inr (q, h)) = ap (λ t. instance all t) h
          ∙ get_or_append_left xs news (var m) m (omega (arith, long, slice_get_within c.ctx m u e))

  -- the clause with the pattern fails under the values together, and weighs the same
  under_goes : GoesTo rank spec c xs (tidied (clause_under terms (c.ctx ++ more) c)) Same
  under_goes =
      let d = clause_under terms (c.ctx ++ more) c in
      let ps = each_sorted spec.sig c.ctx c.premises sorted.premises in
      let cs = each_sorted spec.sig c.ctx c.conclusions sorted.conclusions in
      let d_sorted : ClauseIsSorted spec.sig d = subst (λ z. ClauseIsSorted spec.sig z)
      (instance_under terms (c.ctx ++ more) c) (covered_made spec fine c sorted x s is more p pattern) in
      let d_fails : ClauseFails spec d all = record {
        values_fit = values_append spec c.ctx more xs news fails.values_fit news_are_values;
        premises = holds_after spec c.ctx terms xs all agrees c.premises ps fails.premises;
        conclusions = broken_after spec c.ctx terms xs all agrees c.conclusions cs fails.conclusions;
      } in
      record {
        others = values_at (variables_of d) all;
        fails = tidied_fails spec d d_sorted all d_fails;
        weighs = λ w v a b.
            let e : w ≡ v = ranks_one above rank laws spec xs (sides c)
            (sides_grounded above rank laws spec fine c sorted xs fails) w v a
            (weight_of spec c.ctx terms xs all agrees rank c.premises c.conclusions ps cs v
            (tidied_weight rank spec d all v b)) in
            inl (subst (λ z. IsPermutation w z) e (IsPermutation-refl w));
      }

  pub cover_goes : GoesTo rank spec c xs (tidied (covered_by c x (more, p))) Same
  cover_goes = subst (λ d. GoesTo rank spec c xs (tidied d) Same) (sym (instance_under terms (c.ctx ++ more) c))
      under_goes

-- the pattern of a number, with the sorts of its variables
pub pattern_at : (sig : Sig) (s : SortId) (contexts : List (List SortId)) (ps : List Tree) →
    AllZip (IsPatternOf sig s) contexts ps → (k : ℕ) (p : Tree) → k < length ps → slice_index_or ps k p ≡ p →
    (more : List SortId) × IsPatternOf sig s more p × (slice_get (zip contexts ps) k ≡ Some (more, p))
pattern_at sig s [] [] h k p l e = absurd (omega (arith, l))
pattern_at sig s [] (q ∷ ps) h k p l e = absurd h
pattern_at sig s (m ∷ ms) [] h k p l e = absurd h
pattern_at sig s (m ∷ ms) (q ∷ ps) h zero p l e = let w : q ≡ p = e in
    (m, subst (λ t. IsPatternOf sig s m t) w h.0, λ i. Some (m, w i))
pattern_at sig s (m ∷ ms) (q ∷ ps) h (suc k) p l e = pattern_at sig s ms ps h.1 k p (omega (arith, l)) e

-- one of the children of a cover fails, and weighs the same
pub some_cover : (above : Tree → Tree → Type 0) (rank : ℕ → ℕ → Tree → ℕ → Type 0) → HasRanks above rank →
    (spec : Spec) → IsWellSorted spec → (c : Clause) → ClauseIsSorted spec.sig c → (xs : List Tree) →
    ClauseFails spec c xs → (x : ℕ) (patterns : List Tree) (are : ArePatternsFor spec.sig c x patterns) →
    AreCovering spec.sig are.sort patterns → (k : ℕ) × (q : List SortId × Tree)
    × (slice_get (zip are.contexts patterns) k ≡ Some q) × GoesTo rank spec c xs (tidied (covered_by c x q)) Same
some_cover above rank laws spec fine c sorted xs fails x patterns are covering = by
    (covering (instance xs (var x)) (value_of spec c.ctx xs fails.values_fit x are.sort are.is (var x)))
  where
    by : Any (IsInstanceOf (instance xs (var x))) patterns → (k : ℕ) × (q : List SortId × Tree)
        × (slice_get (zip are.contexts patterns) k ≡ Some q) × GoesTo rank spec c xs (tidied (covered_by c x q)) Same
    by (k, p, l, e, (ts, same)) =
        let m = pattern_at spec.sig are.sort are.contexts patterns are.each k p l e in
        (k, (m.0, p), m.2, cover_goes above rank laws spec fine c sorted xs fails x are.sort are.is m.0 p m.1 ts same)
