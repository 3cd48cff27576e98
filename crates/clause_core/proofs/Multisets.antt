-- Lists as multisets, by how often a member is in them.
use Rattle.std.proofs.Common.{◌≡◌, ◌≢◌, ◌⊎◌, ℕ, zero, suc, ◌+◌, ◌≤◌, List, [], ◌∷◌, ◌++◌, length, subst, sym, refl}
use Rattle.std.proofs.Common.{◌∙◌, append_assoc, arith, inl, inr}
use Rattle.std.specs.Prelude.{IsPermutation, Contains, sum_by}
use Rattle.std.proofs.lemmas.List.{append-nil}
use Rattle.std.proofs.lemmas.List.Sorted.{sum_by-IsPermutation, IsPermutation-refl, IsPermutation-sym}
use Rattle.std.proofs.lemmas.List.Sorted.{IsPermutation-trans, IsPermutation-cons, IsPermutation-middle}
use Rattle.std.proofs.lemmas.List.Sorted.{IsPermutation-append_left, IsPermutation-append_right}
use Rattle.std.proofs.lemmas.List.Sorted.{IsPermutation-append_comm, Contains-permutation}
use Rattle.std.proofs.lemmas.List.Sums.{sum_by-append, sum_by-cons}
use Rattle.term_core.proofs.Members.{In, in_contained, contained_in}
use Rattle.clause_core.specs.Multisets.{AreRests, Exceeds, EachHasGreater}

one_or_none : {A B : Type 0} → A ⊎ B → ℕ
one_or_none (inl a) = 1
one_or_none (inr b) = 0

-- membership in lists that are put together
pub in_either : {X : Type 0} (x : X) (xs ys : List X) → In x (xs ++ ys) → In x xs ⊎ In x ys
in_either x [] ys i = inr i
in_either x (y ∷ xs) ys (inl e) = inl (inl e)
in_either x (y ∷ xs) ys (inr i) = elim (in_either x xs ys i) [ inl j ↦ inl (inr j) | inr j ↦ inr j ]

pub in_first : {X : Type 0} (x : X) (xs ys : List X) → In x xs → In x (xs ++ ys)
in_first x [] ys i = absurd i
in_first x (y ∷ xs) ys (inl e) = inl e
in_first x (y ∷ xs) ys (inr i) = inr (in_first x xs ys i)

pub in_second : {X : Type 0} (x : X) (xs ys : List X) → In x ys → In x (xs ++ ys)
in_second x [] ys i = i
in_second x (y ∷ xs) ys i = inr (in_second x xs ys i)

-- the members of what is left are members of the whole
pub rest_in_first : {X : Type 0} (xs ys rest other : List X) → AreRests xs ys rest other → (x : X) →
    Contains rest x → Contains xs x
rest_in_first xs ys rest other r x i =
    Contains-permutation (r.common ++ rest) xs x (IsPermutation-sym xs (r.common ++ rest) r.of_first)
    (contained_in (r.common ++ rest) x (in_second x r.common rest (in_contained rest x i)))

pub other_in_second : {X : Type 0} (xs ys rest other : List X) → AreRests xs ys rest other → (x : X) →
    Contains other x → Contains ys x
other_in_second xs ys rest other r x i =
    Contains-permutation (r.common ++ other) ys x (IsPermutation-sym ys (r.common ++ other) r.of_second)
    (contained_in (r.common ++ other) x (in_second x r.common other (in_contained other x i)))

-- one member more of the second list, which cancels with one of the rest of the first, or doesn't
pub cancels :
    {X : Type 0} (xs ys rest other : List X) (y : X) (left : List X) → AreRests xs ys rest other →
    IsPermutation rest (y ∷ left) → AreRests xs (ys ++ y ∷ []) left other
cancels xs ys rest other y left r p = record {
  common = y ∷ r.common;
  of_first =
      IsPermutation-trans xs (r.common ++ rest) (y ∷ (r.common ++ left)) r.of_first
      (IsPermutation-trans (r.common ++ rest) (r.common ++ y ∷ left) (y ∷ (r.common ++ left))
      (IsPermutation-append_right r.common rest (y ∷ left) p) (IsPermutation-middle r.common y left));
  of_second =
      IsPermutation-trans (ys ++ y ∷ []) (y ∷ ys) (y ∷ (r.common ++ other))
      (IsPermutation-append_comm ys (y ∷ [])) (IsPermutation-cons y ys (r.common ++ other) r.of_second);
  apart = λ x i j. r.apart x (Contains-permutation (y ∷ left) rest x (IsPermutation-sym rest (y ∷ left) p)
      (contained_in (y ∷ left) x (inr (in_contained left x i)))) j;
}

pub stays :
    {X : Type 0} (xs ys rest other : List X) (y : X) → AreRests xs ys rest other → (Contains rest y → ⊥) →
    AreRests xs (ys ++ y ∷ []) rest (other ++ y ∷ [])
stays {X} xs ys rest other y r new = record {
  common = r.common;
  of_first = r.of_first;
  of_second =
      subst (λ us. IsPermutation (ys ++ y ∷ []) us) (append_assoc r.common other (y ∷ []))
      (IsPermutation-append_left (y ∷ []) ys (r.common ++ other) r.of_second);
  apart = λ x i j. both x i (in_either x other (y ∷ []) (in_contained (other ++ y ∷ []) x j));
}
  where
    both : (x : X) → Contains rest x → In x other ⊎ In x (y ∷ []) → ⊥
    both x i (inl j) = r.apart x i (contained_in other x j)
    both x i (inr (inl e)) = new (subst (λ z. Contains rest z) e i)
    both x i (inr (inr j)) = j

no_members : {X : Type 0} (xs : List X) → ((x : X) → Contains xs x → ⊥) → xs ≡ []
no_members [] h = refl
no_members (x ∷ xs) h = absurd (h x (contained_in (x ∷ xs) x (inl refl)))

has_member : {X : Type 0} (xs : List X) → 1 ≤ length xs → (x : X) × Contains xs x
has_member [] h = absurd (omega (arith, h))
has_member (x ∷ xs) h = (x, contained_in (x ∷ xs) x (inl refl))

none_in_nil : {X : Type 0} (x : X) → Contains [] x → ⊥
none_in_nil x i = in_contained [] x i

-- all members cancel if the lists have the same members
pub all_cancel : {X : Type 0} (xs ys : List X) → IsPermutation xs ys → AreRests xs ys [] []
all_cancel xs ys p = record {
  common = xs;
  of_first = subst (λ us. IsPermutation xs us) (sym (append-nil xs)) (IsPermutation-refl xs);
  of_second = subst (λ us. IsPermutation ys us) (sym (append-nil xs)) (IsPermutation-sym xs ys p);
  apart = λ x i j. none_in_nil x i;
}

pub same_members : {X : Type 0} (xs ys : List X) → AreRests xs ys [] [] → IsPermutation xs ys
same_members xs ys r =
    let p = subst (λ us. IsPermutation xs us) (append-nil r.common) r.of_first in
    let q = subst (λ us. IsPermutation ys us) (append-nil r.common) r.of_second in
    IsPermutation-trans xs r.common ys p (IsPermutation-sym ys r.common q)

module _ {X : Type 0} (same_or_not : (x y : X) → (x ≡ y) ⊎ (x ≢ y)) where
  hit : X → X → ℕ
  hit a x = one_or_none (same_or_not x a)

  hit-cases : (a x : X) → ((x ≡ a) × (hit a x ≡ 1)) ⊎ ((x ≢ a) × (hit a x ≡ 0))
  unfolding hit one_or_none
  hit-cases a x = elim (same_or_not x a) as (λ s. ((x ≡ a) × (one_or_none s ≡ 1))
      ⊎ ((x ≢ a) × (one_or_none s ≡ 0))) [ inl e ↦ inl (e, refl) | inr d ↦ inr (d, refl) ]

  -- how often a member is in the list
  count : X → List X → ℕ
  count a xs = sum_by (hit a) xs

  count-nil : (a : X) → count a [] ≡ 0
  unfolding count
  count-nil a = refl

  count-cons : (a x : X) (xs : List X) → count a (x ∷ xs) ≡ hit a x + count a xs
  unfolding count
  count-cons a x xs = sum_by-cons (hit a) x xs

  count-append : (a : X) (xs ys : List X) → count a (xs ++ ys) ≡ count a xs + count a ys
  unfolding count
  count-append a xs ys = sum_by-append (hit a) xs ys

  count-permutation : (a : X) (xs ys : List X) → IsPermutation xs ys → count a xs ≡ count a ys
  unfolding count
  count-permutation a xs ys p = sym (sum_by-IsPermutation (hit a) xs ys p)

  counted_in : (x : X) (xs : List X) → 1 ≤ count x xs → In x xs
  counted_in x [] h = absurd (omega (arith, h, count-nil x))
  counted_in x (y ∷ ys) h = elim (hit-cases x y) [
    | inl e ↦ inl (sym e.0)
    | inr d ↦ inr (counted_in x ys (omega (arith, h, count-cons x y ys, d.1)))
  ]

  in_counted : (x : X) (xs : List X) → In x xs → 1 ≤ count x xs
  in_counted x [] i = absurd i
  in_counted x (y ∷ ys) (inl e) = elim (hit-cases x y) [
    | inl h ↦ omega (arith, count-cons x y ys, h.1)
    | inr h ↦ absurd (h.0 (sym e))
  ]
  in_counted x (y ∷ ys) (inr i) = omega (arith, in_counted x ys i, count-cons x y ys)

  either_none : (xs ys rest other : List X) → AreRests xs ys rest other → (a : X) →
      (count a rest ≡ 0) ⊎ (count a other ≡ 0)
  either_none xs ys rest other r a = go (count a rest) refl (count a other) refl
    where
      go : (n : ℕ) → count a rest ≡ n → (m : ℕ) → count a other ≡ m → (count a rest ≡ 0) ⊎ (count a other ≡ 0)
      go zero e m f = inl e
      go (suc n) e zero f = inr f
      go (suc n) e (suc m) f = absurd (r.apart a (contained_in rest a (counted_in a rest (omega (arith, e))))
          (contained_in other a (counted_in a other (omega (arith, f)))))

  module _ (xs ys rest other more others : List X) (r : AreRests xs ys rest other)
      (q : AreRests xs ys more others) where
    -- what is left is the same, however common members cancel
    counts_agree : (a : X) → (count a rest ≡ count a more) × (count a other ≡ count a others)
    counts_agree a =
        let p0 = count-permutation a xs (r.common ++ rest) r.of_first ∙ count-append a r.common rest in
        let p1 = count-permutation a ys (r.common ++ other) r.of_second ∙ count-append a r.common other in
        let q0 = count-permutation a xs (q.common ++ more) q.of_first ∙ count-append a q.common more in
        let q1 = count-permutation a ys (q.common ++ others) q.of_second ∙ count-append a q.common others in
        elim (either_none xs ys rest other r a) [
          | inl m ↦ elim (either_none xs ys more others q a) [
            | inl n ↦ (
              omega (arith, p0, p1, q0, q1, m, n),
              omega (arith, p0, p1, q0, q1, m, n),
            )
            | inr n ↦ (
              omega (arith, p0, p1, q0, q1, m, n),
              omega (arith, p0, p1, q0, q1, m, n),
            )
          ]
          | inr m ↦ elim (either_none xs ys more others q a) [
            | inl n ↦ (
              omega (arith, p0, p1, q0, q1, m, n),
              omega (arith, p0, p1, q0, q1, m, n),
            )
            | inr n ↦ (
              omega (arith, p0, p1, q0, q1, m, n),
              omega (arith, p0, p1, q0, q1, m, n),
            )
          ]
        ]

    pub rests_agree : (a : X) → Contains rest a → Contains more a
    rests_agree a i = contained_in more a
        (counted_in a more (omega (arith, (counts_agree a).0, in_counted a rest (in_contained rest a i))))

    pub others_agree : (a : X) → Contains other a → Contains others a
    others_agree a i = contained_in others a
        (counted_in a others (omega (arith, (counts_agree a).1, in_counted a other (in_contained other a i))))

  module _ (xs ys rest other : List X) (r : AreRests xs ys rest other) where
    pub nothing_left : IsPermutation xs ys → (rest ≡ []) × (other ≡ [])
    nothing_left p =
        let q = all_cancel xs ys p in (
          no_members rest (λ x i. none_in_nil x (rests_agree xs ys rest other [] [] r q x i)),
          no_members other (λ x i. none_in_nil x (others_agree xs ys rest other [] [] r q x i)),
        )

    module _ (greater : X → X → Type 0) (e : Exceeds greater xs ys) where
      pub something_left : rest ≡ [] → ⊥
      something_left empty =
          let m = has_member e.rest e.not_empty in
          none_in_nil m.0 (subst (λ us. Contains us m.0) empty
          (rests_agree xs ys e.rest e.other rest other e.rests r m.0 m.1))

      pub each_exceeded : EachHasGreater greater rest other
      each_exceeded y i =
          let g = e.has_greater y (others_agree xs ys rest other e.rest e.other r e.rests y i) in
          (g.0, rests_agree xs ys e.rest e.other rest other e.rests r g.0 g.1, g.2)
