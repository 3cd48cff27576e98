-- Weights by counts: at some number the first has more, and above it both have as many.
use Rattle.std.proofs.Common.{◌≡◌, ◌⊎◌, ℕ, zero, suc, ◌+◌, ◌≤◌, ◌<◌, List, [], ◌∷◌, ◌++◌, ap, subst, sym, refl, ◌∙◌}
use Rattle.std.proofs.Common.{arith, inl, inr}
use Rattle.std.specs.Prelude.{IsPermutation}
use Rattle.std.proofs.lemmas.List.Sorted.{IsPermutation-sym, IsPermutation-trans}
use Rattle.clause_core.specs.declared.clauses.Relation.{Relation}
use Rattle.clause_core.specs.declared.clauses.Relation.TheVariants.{Less, Same, Neither}
use Rattle.descent.specs.Weights.{IsHeavier, Weighs}
use Rattle.descent.proofs.Multisets.{hit, hit_itself, hit_below, occurs, occurs-cons, occurs-append}
use Rattle.descent.proofs.Multisets.{occurs-permutation, IsIn, head-in, contains-in, in-contains, cancel, greatest}
use Rattle.descent.proofs.Multisets.{length-in}

abbrev pub Alike : List ℕ → List ℕ → Type 0
Alike xs ys = (a : ℕ) → occurs a xs ≡ occurs a ys

pub record Drops (xs ys : List ℕ) : Type 0 where
  pub at : ℕ
  pub more : occurs at ys < occurs at xs
  pub above : (x : ℕ) → at < x → occurs x xs ≡ occurs x ys

-- ys weighs no more than xs
abbrev pub NoMore : List ℕ → List ℕ → Type 0
NoMore xs ys = Alike xs ys ⊎ Drops xs ys

order : (a b : ℕ) → (a < b) ⊎ ((a ≡ b) ⊎ (b < a))
order a b = grind arith

split : (n : ℕ) → (1 ≤ n) ⊎ (n ≡ 0)
split zero = inr refl
split (suc n) = inl (omega arith)

pub drops_heavier : (xs ys : List ℕ) → Drops xs ys → IsHeavier xs ys
drops_heavier xs ys d =
    let c = cancel xs ys in
    let left : (a : ℕ) → occurs a xs ≡ occurs a c.common + occurs a c.rest = λ a. occurs-permutation a xs
    (c.common ++ c.rest) c.left ∙ occurs-append a c.common c.rest in
    let right : (a : ℕ) → occurs a ys ≡ occurs a c.common + occurs a c.other = λ a. occurs-permutation a ys
    (c.common ++ c.other) c.right ∙ occurs-append a c.common c.other in
    let i : IsIn d.at c.rest = omega (arith, d.more, left d.at, right d.at) in
    record {
      rest = c.rest;
      other = c.other;
      rests = record {
        common = c.common;
        of_first = c.left;
        of_second = c.right;
        apart = λ x p q. c.apart x (contains-in c.rest x p) (contains-in c.other x q);
      };
      not_empty = length-in c.rest d.at i;
      has_greater = λ y p. (
        d.at,
        in-contains c.rest d.at i,
        below y d.at (occurs y c.common) (occurs y c.rest) (occurs y c.other) (contains-in c.other y p)
            (λ q. c.apart y q (contains-in c.other y p)) (left y) (right y) (d.above y) d.more,
      );
    }
  where
    below : (y m a b o : ℕ) → 1 ≤ o → (1 ≤ b → ⊥) → occurs y xs ≡ a + b → occurs y ys ≡ a + o →
        (m < y → occurs y xs ≡ occurs y ys) → occurs m ys < occurs m xs → y < m
    below y m a b o one gone l r h more = elim (split b) [
      | inl k ↦ absurd (gone k)
      | inr e ↦ elim (order y m) [
        | inl k ↦ k
        | inr q ↦ elim q [
          | inl k ↦ absurd (let z : occurs y xs ≡ occurs m xs = ap (λ w. occurs w xs) k in
              let w : occurs y ys ≡ occurs m ys = ap (λ u. occurs u ys) k in omega arith)
          | inr k ↦ absurd (omega (arith, h k))
        ]
      ]
    ]

pub heavier_drops : (xs ys : List ℕ) → IsHeavier xs ys → Drops xs ys
heavier_drops xs ys d =
    let left : (a : ℕ) → occurs a xs ≡ occurs a d.rests.common + occurs a d.rest = λ a. occurs-permutation a xs
    (d.rests.common ++ d.rest) d.rests.of_first ∙ occurs-append a d.rests.common d.rest in
    let right : (a : ℕ) → occurs a ys ≡ occurs a d.rests.common + occurs a d.other = λ a. occurs-permutation a
    ys (d.rests.common ++ d.other) d.rests.of_second ∙ occurs-append a d.rests.common d.other in
    let m = greatest d.rest d.not_empty in
    let small : (y : ℕ) → IsIn y d.other → y < m.0 = λ y i. let g = d.has_greater y (in-contains d.other y i) in
    omega (arith, g.2, m.2 g.0 (contains-in d.rest g.0 g.1)) in
    let none : (y : ℕ) → m.0 ≤ y →
    occurs y d.other ≡ 0 = λ y l. elim (split (occurs y d.other))
    [ inl i ↦ absurd (omega (arith, small y i)) | inr e ↦ e ] in
    let less : (y : ℕ) → m.0 < y →
    occurs y d.rest ≡ 0 = λ y l. elim (split (occurs y d.rest))
    [ inl i ↦ absurd (omega (arith, m.2 y i)) | inr e ↦ e ] in
    record {
      at = m.0;
      more = omega (arith, left m.0, right m.0, m.1, none m.0 (omega arith));
      above = λ y l. omega (arith, left y, right y, none y (omega arith), less y l);
    }

drops_trans : (xs ys zs : List ℕ) → Drops xs ys → Drops ys zs → Drops xs zs
drops_trans xs ys zs d e = elim (order d.at e.at) [
  | inl l ↦ record {
    at = e.at;
    more = omega (arith, e.more, d.above e.at l);
    above = λ y k. omega (
      arith,
      d.above y (omega arith),
      e.above y k,
    );
  }
  | inr o ↦ elim o [
    | inl p ↦ record {
      at = d.at;
      more = omega (
        arith,
        d.more,
        subst (λ a. occurs a zs < occurs a ys) (sym p) e.more,
      );
      above = λ y k. omega (
        arith,
        d.above y k,
        e.above y (omega arith),
      );
    }
    | inr l ↦ record {
      at = d.at;
      more = omega (arith, d.more, e.above d.at l);
      above = λ y k. omega (
        arith,
        d.above y k,
        e.above y (omega arith),
      );
    }
  ]
]

drops_no_more : (xs ys zs : List ℕ) → Drops xs ys → NoMore ys zs → Drops xs zs
drops_no_more xs ys zs d (inl a) = record {
  at = d.at;
  more = omega (arith, d.more, a d.at);
  above = λ y k.
      omega (arith, d.above y k, a y);
}
drops_no_more xs ys zs d (inr e) = drops_trans xs ys zs d e

alike_drops : (xs ys zs : List ℕ) → Alike xs ys → Drops ys zs → Drops xs zs
alike_drops xs ys zs a d = record {
  at = d.at;
  more = omega (arith, d.more, a d.at);
  above = λ y k. omega
      (arith, d.above y k, a y);
}

no_more_trans : (xs ys zs : List ℕ) → NoMore xs ys → NoMore ys zs → NoMore xs zs
no_more_trans xs ys zs (inl a) (inl b) = inl (λ x. a x ∙ b x)
no_more_trans xs ys zs (inl a) (inr e) = inr (alike_drops xs ys zs a e)
no_more_trans xs ys zs (inr d) n = inr (drops_no_more xs ys zs d n)

-- one more number on both sides, which is no less on the first
pub no_more_cons : (x y : ℕ) (xs ys : List ℕ) → y ≤ x → NoMore xs ys → NoMore (x ∷ xs) (y ∷ ys)
no_more_cons x y xs ys l n = elim (order y x) [
  | inl less ↦ inr (falls less n)
  | inr o ↦ elim o [ inl e ↦ same e n | inr more ↦ absurd (omega arith) ]
]
  where
    same : y ≡ x → NoMore xs ys → NoMore (x ∷ xs) (y ∷ ys)
    same e (inl a) = inl (λ z. let h : hit z y ≡ hit z x = ap (λ w. hit z w) e in
        omega (arith, a z, occurs-cons z x xs, occurs-cons z y ys))
    same e (inr d) =
        inr (record {
          at = d.at;
          more = let h : hit d.at y ≡ hit d.at x = ap (λ w. hit d.at w) e in
              omega (arith, d.more, occurs-cons d.at x xs, occurs-cons d.at y ys);
          above = λ z k. let h : hit z y ≡ hit z x = ap (λ w. hit z w) e in
              omega (arith, d.above z k, occurs-cons z x xs, occurs-cons z y ys);
        })

    falls : y < x → NoMore xs ys → Drops (x ∷ xs) (y ∷ ys)
    falls less (inl a) = record {
      at = x;
      more = omega (arith, a x, occurs-cons x x xs, occurs-cons x y ys, hit_itself x, hit_below x y less);
      above = λ z k. omega (
        arith,
        a z,
        occurs-cons z x xs,
        occurs-cons z y ys,
        hit_below z x k,
        hit_below z y (omega arith),
      );
    }
    falls less (inr d) = elim (order d.at x) [
      | inl k ↦ record {
        at = x;
        more = omega (
          arith,
          d.above x k,
          occurs-cons x x xs,
          occurs-cons x y ys,
          hit_itself x,
          hit_below x y less,
        );
        above = λ z j. omega (
          arith,
          d.above z (omega arith),
          occurs-cons z x xs,
          occurs-cons z y ys,
          hit_below z x j,
          hit_below z y (omega arith),
        );
      }
      | inr o ↦ let j : x ≤ d.at = elim o [ inl e ↦ omega arith | inr m ↦ omega arith ] in
          record {
            at = d.at;
            more = omega (
              arith,
              d.more,
              occurs-cons d.at x xs,
              occurs-cons d.at y ys,
              hit_below d.at y (omega arith),
            );
            above = λ z i. omega (
              arith,
              d.above z i,
              occurs-cons z x xs,
              occurs-cons z y ys,
              hit_below z x (omega arith),
              hit_below z y (omega arith),
            );
          }
    ]

-- as many of each number: one list is the other one in another order
alike_permutation : (xs ys : List ℕ) → Alike xs ys → IsPermutation xs ys
alike_permutation xs ys a =
    let c = cancel xs ys in
    let left : (x : ℕ) → occurs x xs ≡ occurs x c.common + occurs x c.rest = λ x. occurs-permutation x xs
    (c.common ++ c.rest) c.left ∙ occurs-append x c.common c.rest in
    let right : (x : ℕ) → occurs x ys ≡ occurs x c.common + occurs x c.other = λ x. occurs-permutation x ys
    (c.common ++ c.other) c.right ∙ occurs-append x c.common c.other in
    let r : c.rest ≡ [] = empty c.rest (λ x i. c.apart x i (omega (arith, a x, left x, right x))) in
    let o : c.other ≡ [] = empty c.other (λ x i. c.apart x (omega (arith, a x, left x, right x)) i) in
    let p : IsPermutation xs (c.common ++ []) = subst (λ zs. IsPermutation xs (c.common ++ zs)) r c.left in
    let q : IsPermutation ys (c.common ++ []) = subst (λ zs. IsPermutation ys (c.common ++ zs)) o c.right in
    IsPermutation-trans xs (c.common ++ []) ys p (IsPermutation-sym ys (c.common ++ []) q)
  where
    empty : (zs : List ℕ) → ((x : ℕ) → IsIn x zs → ⊥) → zs ≡ []
    empty [] h = refl
    empty (z ∷ zs) h = absurd (h z (head-in z zs))

-- what weighs no more than a clause that comparing tells of
pub weighs_no_more : (r : Relation) (w u v : List ℕ) → Weighs r w u → NoMore u v → Weighs r w v
weighs_no_more Neither w u v h n = tt
weighs_no_more Less w u v h n = drops_heavier w v (drops_no_more w u v (heavier_drops w u h) n)
weighs_no_more Same w u v (inr h) n = inr (drops_heavier w v (drops_no_more w u v (heavier_drops w u h) n))
weighs_no_more Same w u v (inl p) n = by (no_more_trans w u v (inl (λ a. occurs-permutation a w u p)) n)
  where
    by : NoMore w v → IsPermutation w v ⊎ IsHeavier w v
    by (inl a) = inl (alike_permutation w v a)
    by (inr d) = inr (drops_heavier w v d)
