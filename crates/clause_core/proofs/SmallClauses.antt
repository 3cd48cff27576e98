-- Comparing small clauses over naturals.
use Rattle.std.proofs.Common.{◌≡◌, zero, suc, List, [], ◌∷◌, ◌++◌, Some, None, ◌⊎◌, inl, inr, refl, arith, subst}
use Rattle.std.specs.Prelude.{Contains}
use Rattle.std.proofs.lemmas.List.Sorted.{IsPermutation-refl, IsPermutation-sym, IsPermutation-append_comm}
use Rattle.std.proofs.lemmas.List.Sorted.{Contains-permutation}
use Rattle.term_core.specs.Tree.{Tree, var}
use Rattle.term_core.proofs.Members.{In, in_contained, contained_in}
use Rattle.term_core.specs.declared.ids.SortId.{SortId}
use Rattle.term_core.specs.Variables.{Numbered}
use Rattle.spec_core.specs.declared.records.Equation.{Equation}
use Rattle.spec_core.specs.Naturals.{nat, naturals_sig, declares, zero_term, plus_term}
use Rattle.spec_core.specs.Sorts.{Sorted}
use Rattle.spec_core.specs.WellSorted.{EquationsAreSorted}
use Rattle.sample_specs.specs.SumOrder.{AboveInSums}
use Rattle.clause_core.specs.declared.clauses.Relation.TheVariants.{Less, Same, Neither}
use Rattle.clause_core.specs.Clauses.{sides, ClauseIsSorted}
use Rattle.clause_core.specs.Multisets.{Exceeds}
use Rattle.clause_core.specs.Comparing.{Compares}
use Rattle.clause_core.specs.Tidied.{IsTidied}
use Rattle.clause_core.proofs.Multisets.{in_either, in_first, in_second}
use Rattle.clause_core.specs.ClauseExamples.{equals, claims, zero_sum, same_x, right_zero}

-- plus(zero, x)
abbrev sum : Tree
sum = plus_term zero_term (var 0)

pub swapped : Compares AboveInSums zero_sum (claims (nat ∷ []) (equals (var 0) sum)) Same
swapped = IsPermutation-append_comm (sum ∷ []) (var 0 ∷ [])

abbrev same : Tree → List Tree
same t = t ∷ t ∷ []

differ : var 0 ≡ sum → ⊥
differ e = cc

pub rewritten : Compares AboveInSums zero_sum same_x Less
rewritten = record {
  rest = sum ∷ [];
  other = var 0 ∷ [];
  rests = record {
    common = var 0 ∷ [];
    of_first = IsPermutation-append_comm (sum ∷ []) (var 0 ∷ []);
    of_second = IsPermutation-refl (same (var 0));
    apart = λ x i j. both x (in_contained (sum ∷ []) x i) (in_contained (var 0 ∷ []) x j);
  };
  not_empty = omega arith;
  has_greater = λ y i. (sum, contained_in (sum ∷ []) sum (inl refl), above y (in_contained (var 0 ∷ []) y i));
}
  where
    both : (x : Tree) → In x (sum ∷ []) → In x (var 0 ∷ []) → ⊥
    both x (inl p) (inl q) = let e : var 0 ≡ sum = cc in differ e
    both x (inl p) (inr j) = j
    both x (inr i) j = i

    above : (y : Tree) → In y (var 0 ∷ []) → AboveInSums sum y
    above y (inl e) = subst (λ t. AboveInSums sum t) (let q : var 0 ≡ y = cc in q) (λ env. omega arith)
    above y (inr i) = absurd i

only_x : (t : Tree) → Contains (same (var 0)) t → t ≡ var 0
only_x t c = go (in_contained (same (var 0)) t c)
  where
    go : In t (same (var 0)) → t ≡ var 0
    go (inl e) = e
    go (inr (inl e)) = e
    go (inr (inr i)) = absurd i

nothing_below_x : (t s : Tree) → t ≡ var 0 → AboveInSums t s → ⊥
nothing_below_x t s e a = let b : AboveInSums (var 0) s = subst (λ u. AboveInSums u s) e a in omega (arith, b (λ n. 0))

pub greater : Compares AboveInSums same_x zero_sum Neither
greater = (
  λ p. none (Contains-permutation (sides zero_sum) (same (var 0)) sum
      (IsPermutation-sym (same (var 0)) (sides zero_sum) p) here),
  λ e. go e (in_either sum e.rests.common e.other
      (in_contained (e.rests.common ++ e.other) sum
      (Contains-permutation (sides zero_sum) (e.rests.common ++ e.other) sum e.rests.of_second here))),
)
  where
    here : Contains (sides zero_sum) sum
    here = contained_in (sides zero_sum) sum (inl refl)

    none : Contains (same (var 0)) sum → ⊥
    none c = let e : sum ≡ var 0 = only_x sum c in cc

    back : (e : Exceeds AboveInSums (same (var 0)) (sides zero_sum)) (t : Tree) →
        In t (e.rests.common ++ e.rest) → Contains (same (var 0)) t
    back e t i = Contains-permutation (e.rests.common ++ e.rest) (same (var 0)) t
        (IsPermutation-sym (same (var 0)) (e.rests.common ++ e.rest) e.rests.of_first)
        (contained_in (e.rests.common ++ e.rest) t i)

    go : (e : Exceeds AboveInSums (same (var 0)) (sides zero_sum)) → In sum e.rests.common ⊎ In sum e.other → ⊥
    go e (inl i) = none (back e sum (in_first sum e.rests.common e.rest i))
    go e (inr i) =
        let g = e.has_greater sum (contained_in e.other sum i) in
        nothing_below_x g.0 sum
        (only_x g.0 (back e g.0 (in_second g.0 e.rests.common e.rest (in_contained e.rest g.0 g.1)))) g.2

-- plus(zero, x) = x is sorted
pub sorted_sum : ClauseIsSorted naturals_sig zero_sum
sorted_sum = record {
  variables = (omega arith, tt);
  premises = λ k e at. absurd (let q : None ≡ Some e = at in
      cc);
  conclusions = conclusion;
}
  where
    conclusion : EquationsAreSorted naturals_sig (nat ∷ []) (equals sum (var 0) ∷ [])
    conclusion zero e at =
        let q : Some (equals sum (var 0)) ≡ Some e = at in
        let k : equals sum (var 0) ≡ e = cc in
        subst (λ (d : Equation). (s : SortId) × Sorted naturals_sig (nat ∷ []) d.left s
        × Sorted naturals_sig (nat ∷ []) d.right s) k
        (nat, (declares (nat ∷ nat ∷ []), refl, refl, ((declares [], refl, refl, tt), (refl, tt))), refl)
    conclusion (suc n) e at = absurd (let q : None ≡ Some e = at in cc)

-- y = zero implies plus(x, y) = x isn't tidied: y comes first
pub untidied : IsTidied right_zero → ⊥
untidied h = go h.1
  where
    go : Numbered 0 (var 1) h.0 → ⊥
    go (inl p) = omega (arith, p)
    go (inr p) = omega (arith, p)
