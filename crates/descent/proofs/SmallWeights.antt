-- Weights of the examples, compared.
use Rattle.std.proofs.Common.{ℕ, ◌<◌, [], ◌∷◌, inl, inr, refl, arith}
use Rattle.term_core.proofs.Numbers.{same_or_not}
use Rattle.std.proofs.lemmas.List.Sorted.{IsPermutation-refl, IsPermutation-append_comm}
use Rattle.term_core.proofs.Members.{In, in_contained, contained_in}
use Rattle.clause_core.proofs.Multisets.{all_cancel, something_left}
use Rattle.descent.specs.Weights.{IsHeavier}

pub heavier : IsHeavier (5 ∷ 3 ∷ []) (4 ∷ 4 ∷ 3 ∷ [])
heavier = record {
  rest = 5 ∷ [];
  other = 4 ∷ 4 ∷ [];
  rests = record {
    common = 3 ∷ [];
    of_first = IsPermutation-append_comm (5 ∷ []) (3 ∷ []);
    of_second = IsPermutation-append_comm (4 ∷ 4 ∷ []) (3 ∷ []);
    apart = λ x i j. no_both x (in_contained (5 ∷ []) x i) (in_contained (4 ∷ 4 ∷ []) x j);
  };
  not_empty = omega arith;
  has_greater = λ y i. (5, contained_in (5 ∷ []) 5 (inl refl), four y (in_contained (4 ∷ 4 ∷ []) y i));
}
  where
    four : (y : ℕ) → In y (4 ∷ 4 ∷ []) → y < 5
    four y (inl e) = omega (arith, e)
    four y (inr (inl e)) = omega (arith, e)
    four y (inr (inr e)) = absurd e

    no_both : (x : ℕ) → In x (5 ∷ []) → In x (4 ∷ 4 ∷ []) → ⊥
    no_both x (inl e) j = omega (arith, e, four x j)
    no_both x (inr e) j = e

pub not_itself : IsHeavier (5 ∷ 3 ∷ []) (5 ∷ 3 ∷ []) → ⊥
not_itself h = something_left same_or_not (5 ∷ 3 ∷ []) (5 ∷ 3 ∷ []) [] []
    (all_cancel (5 ∷ 3 ∷ []) (5 ∷ 3 ∷ []) (IsPermutation-refl (5 ∷ 3 ∷ []))) (λ m n. n < m) h refl
