-- Lists of numbers as multisets, by how often a number is in them (Dershowitz and Manna's rule, however much was cancelled).
use Rattle.std.proofs.Common.{◌≡◌, ◌≢◌, ◌⊎◌, ℕ, zero, suc, ◌+◌, ◌≤◌, ◌<◌, Bool, true, false, cond, eqb, List, [], ◌∷◌}
use Rattle.std.proofs.Common.{◌++◌, length, slice_index_or, ap, subst, sym, refl, append_assoc, ◌∙◌, arith, inl, inr}
use Rattle.std.specs.Prelude.{IsPermutation, Contains, sum_by}
use Rattle.std.proofs.lemmas.List.Sorted.{sum_by-IsPermutation, IsPermutation-refl, IsPermutation-sym}
use Rattle.std.proofs.lemmas.List.Sorted.{IsPermutation-trans, IsPermutation-cons, IsPermutation-middle}
use Rattle.std.proofs.lemmas.List.Sorted.{IsPermutation-append_right}
use Rattle.std.proofs.lemmas.List.Sums.{sum_by-append, sum_by-cons}
use Rattle.std.proofs.lemmas.Bool.{eqb-true, eqb-false}
use Rattle.descent.specs.Weights.{IsHeavier}

pub hit : ℕ → ℕ → ℕ
hit a x = cond (eqb x a) 1 0

pub hit-cases : (a x : ℕ) → ((x ≡ a) × (hit a x ≡ 1)) ⊎ ((x ≢ a) × (hit a x ≡ 0))
unfolding hit
hit-cases a x = go (eqb x a) refl
  where
    go : (b : Bool) → eqb x a ≡ b → ((x ≡ a) × ◌≡◌ {A = ℕ} (cond b 1 0) 1) ⊎ ((x ≢ a) × ◌≡◌ {A = ℕ} (cond b 1 0) 0)
    go true e = inl (eqb-true x a e, refl)
    go false e = inr (eqb-false x a e, refl)

pub hit_itself : (z : ℕ) → hit z z ≡ 1
hit_itself z = elim (hit-cases z z) [ inl h ↦ h.1 | inr h ↦ absurd (h.0 refl) ]

pub hit_below : (z w : ℕ) → w < z → hit z w ≡ 0
hit_below z w k = elim (hit-cases z w) [ inl h ↦ absurd (omega (arith, h.0)) | inr h ↦ h.1 ]

-- How often a occurs.
pub occurs : ℕ → List ℕ → ℕ
occurs a xs = sum_by (hit a) xs

pub occurs-none : (a : ℕ) → occurs a [] ≡ 0
unfolding occurs
occurs-none a = refl

pub occurs-cons : (a x : ℕ) (xs : List ℕ) → occurs a (x ∷ xs) ≡ hit a x + occurs a xs
unfolding occurs
occurs-cons a x xs = sum_by-cons (hit a) x xs

pub occurs-append : (a : ℕ) (xs ys : List ℕ) → occurs a (xs ++ ys) ≡ occurs a xs + occurs a ys
unfolding occurs
occurs-append a xs ys = sum_by-append (hit a) xs ys

pub occurs-permutation : (a : ℕ) (xs ys : List ℕ) → IsPermutation xs ys → occurs a xs ≡ occurs a ys
unfolding occurs
occurs-permutation a xs ys p = sym (sum_by-IsPermutation (hit a) xs ys p)

abbrev pub IsIn : ℕ → List ℕ → Type 0
IsIn x xs = 1 ≤ occurs x xs

pub none-in : (x : ℕ) → IsIn x [] → ⊥
none-in x i = omega (arith, occurs-none x)

pub head-in : (x : ℕ) (xs : List ℕ) → IsIn x (x ∷ xs)
head-in x xs = elim (hit-cases x x) [ inl h ↦ omega (arith, h.1, occurs-cons x x xs) | inr h ↦ absurd (h.0 refl) ]

pub tail-in : (x y : ℕ) (xs : List ℕ) → IsIn x xs → IsIn x (y ∷ xs)
tail-in x y xs i = omega (arith, occurs-cons x y xs)

pub in-cases : (x y : ℕ) (xs : List ℕ) → IsIn x (y ∷ xs) → (y ≡ x) ⊎ IsIn x xs
in-cases x y xs i = elim (hit-cases x y) [ inl h ↦ inl h.0 | inr h ↦ inr (omega (arith, h.1, occurs-cons x y xs)) ]

pub contains-in : (xs : List ℕ) (x : ℕ) → Contains xs x → IsIn x xs
contains-in xs x c = go xs c.0 c.1 c.2
  where
    go : (xs : List ℕ) (k : ℕ) → k < length xs → slice_index_or xs k x ≡ x → IsIn x xs
    go [] k l e = absurd (omega arith)
    go (y ∷ ys) zero l e = subst (λ z. IsIn x (z ∷ ys)) (sym e) (head-in x ys)
    go (y ∷ ys) (suc k) l e = tail-in x y ys (go ys k (omega arith) e)

pub in-contains : (xs : List ℕ) (x : ℕ) → IsIn x xs → Contains xs x
in-contains [] x i = absurd (none-in x i)
in-contains (y ∷ ys) x i =
    elim (in-cases x y ys i) [
      | inl e ↦ (0, omega arith, e)
      | inr j ↦ let c = in-contains ys x j in
          (suc c.0, omega (arith, c.1), c.2)
    ]

-- Two lists without what they share.
pub record Cancelled (xs ys : List ℕ) : Type 0 where
  pub common : List ℕ
  pub rest : List ℕ
  pub other : List ℕ
  pub left : IsPermutation xs (common ++ rest)
  pub right : IsPermutation ys (common ++ other)
  pub apart : (x : ℕ) → IsIn x rest → IsIn x other → ⊥

-- A member to the front.
front : (xs : List ℕ) (x : ℕ) → IsIn x xs → (us : List ℕ) × IsPermutation xs (x ∷ us)
front [] x i = absurd (none-in x i)
front (y ∷ ys) x i =
    elim (in-cases x y ys i) [
      | inl e ↦ (ys, subst (λ z. IsPermutation (y ∷ ys) (z ∷ ys)) e (IsPermutation-refl (y ∷ ys)))
      | inr j ↦
          let r = front ys x j in (
            y ∷ r.0,
            IsPermutation-trans (y ∷ ys) (y ∷ x ∷ r.0) (x ∷ y ∷ r.0)
                (IsPermutation-cons y ys (x ∷ r.0) r.1) (IsPermutation-middle (y ∷ []) x r.0),
          )
    ]

cancel-more : (x : ℕ) (xs ys : List ℕ) → Cancelled xs ys → Cancelled (x ∷ xs) ys
cancel-more x xs ys c = go (split (occurs x c.other))
  where
    split : (n : ℕ) → (1 ≤ n) ⊎ (n ≡ 0)
    split zero = inr refl
    split (suc n) = inl (omega arith)

    go : (1 ≤ occurs x c.other) ⊎ (occurs x c.other ≡ 0) → Cancelled (x ∷ xs) ys
    go (inl i) =
        let r = front c.other x i in
        record {
          common = x ∷ c.common;
          rest = c.rest;
          other = r.0;
          left = IsPermutation-cons x xs (c.common ++ c.rest) c.left;
          right =
              IsPermutation-trans ys (c.common ++ c.other) (x ∷ (c.common ++ r.0)) c.right
              (IsPermutation-trans (c.common ++ c.other) (c.common ++ x ∷ r.0) (x ∷ (c.common ++ r.0))
              (IsPermutation-append_right c.common c.other (x ∷ r.0) r.1) (IsPermutation-middle c.common x r.0));
          apart = λ y i' j. c.apart y i' (subst (λ n. 1 ≤ n) (sym (occurs-permutation y c.other (x ∷ r.0) r.1))
              (tail-in y x r.0 j));
        }
    go (inr e) =
        record {
          common = c.common;
          rest = x ∷ c.rest;
          other = c.other;
          left = IsPermutation-trans (x ∷ xs) (x ∷ (c.common ++ c.rest)) (c.common ++ x ∷ c.rest)
              (IsPermutation-cons x xs (c.common ++ c.rest) c.left)
              (IsPermutation-sym (c.common ++ x ∷ c.rest) (x ∷ (c.common ++ c.rest))
              (IsPermutation-middle c.common x c.rest));
          right = c.right;
          apart = λ y i j. elim (in-cases y x c.rest i) [
            | inl q ↦ absurd (let z : occurs x c.other ≡ occurs y c.other = ap (λ w. occurs w c.other) q in
                omega arith)
            | inr k ↦ c.apart y k j
          ];
        }

pub cancel : (xs ys : List ℕ) → Cancelled xs ys
cancel [] ys = record {
  common = [];
  rest = [];
  other = ys;
  left = IsPermutation-refl [];
  right = IsPermutation-refl ys;
  apart = λ x i j. none-in x i;
}
cancel (x ∷ xs) ys = cancel-more x xs ys (cancel xs ys)

pub greatest : (xs : List ℕ) → 1 ≤ length xs → (m : ℕ) × IsIn m xs × ((x : ℕ) → IsIn x xs → x ≤ m)
greatest [] l = absurd (omega arith)
greatest (x ∷ []) l = (
  x,
  head-in x [],
  λ y i. elim (in-cases y x [] i) [ inl e ↦ omega arith | inr j ↦ absurd (none-in y j) ],
)
greatest (x ∷ y ∷ xs) l = go (greatest (y ∷ xs) (omega arith))
  where
    order : (a b : ℕ) → (a ≤ b) ⊎ (b ≤ a)
    order a b = grind arith

    go : (m : ℕ) × IsIn m (y ∷ xs) × ((z : ℕ) → IsIn z (y ∷ xs) → z ≤ m) → (m : ℕ) × IsIn m (x ∷ y ∷ xs)
        × ((z : ℕ) → IsIn z (x ∷ y ∷ xs) → z ≤ m)
    go (m, i, top) =
        elim (order x m) [
          | inl h ↦ (
            m,
            tail-in m x (y ∷ xs) i,
            λ z j. elim (in-cases z x (y ∷ xs) j) [ inl e ↦ omega arith | inr k ↦ top z k ],
          )
          | inr h ↦ (
            x,
            head-in x (y ∷ xs),
            λ z j. elim (in-cases z x (y ∷ xs) j) [ inl e ↦ omega arith | inr k ↦ omega (arith, top z k) ],
          )
        ]

pub length-in : (xs : List ℕ) (x : ℕ) → IsIn x xs → 1 ≤ length xs
length-in [] x i = absurd (none-in x i)
length-in (y ∷ ys) x i = omega arith

-- Whatever was cancelled, more may be.
pub exceeds_cancelled : (xs ys common rest other : List ℕ) → IsPermutation xs (common ++ rest) →
    IsPermutation ys (common ++ other) → 1 ≤ length rest →
    ((y : ℕ) → IsIn y other → (x : ℕ) × IsIn x rest × y < x) → IsHeavier xs ys
exceeds_cancelled xs ys common rest other left right some greater =
    let c = cancel rest other in
    let m = greatest rest some in
    let both : (a : ℕ) → occurs a rest ≡ occurs a c.common + occurs a c.rest = λ a. occurs-permutation a rest
    (c.common ++ c.rest) c.left ∙ occurs-append a c.common c.rest in
    let away : (a : ℕ) → occurs a other ≡ occurs a c.common + occurs a c.other = λ a. occurs-permutation a other
    (c.common ++ c.other) c.right ∙ occurs-append a c.common c.other in
    let top : (y : ℕ) → IsIn y other → y < m.0 = λ y i. let g = greater y i in omega (arith, g.2, m.2 g.0 g.1) in
    let kept : IsIn m.0 c.rest = keep (occurs m.0 c.common) (occurs m.0 c.rest)
    (λ i. let l = top m.0 (omega (arith, away m.0)) in omega arith) (omega (arith, both m.0, m.1)) in
    record {
      rest = c.rest;
      other = c.other;
      rests = record {
        common = common ++ c.common;
        of_first = subst (λ us. IsPermutation xs us) (sym (append_assoc common c.common c.rest))
            (IsPermutation-trans xs (common ++ rest) (common ++ (c.common ++ c.rest)) left
            (IsPermutation-append_right common rest (c.common ++ c.rest) c.left));
        of_second = subst (λ us. IsPermutation ys us) (sym (append_assoc common c.common c.other))
            (IsPermutation-trans ys (common ++ other) (common ++ (c.common ++ c.other)) right
            (IsPermutation-append_right common other (c.common ++ c.other) c.right));
        apart = λ x i j. c.apart x (contains-in c.rest x i) (contains-in c.other x j);
      };
      not_empty = length-in c.rest m.0 kept;
      has_greater = λ y i. (m.0, in-contains c.rest m.0 kept, top y (omega (arith, away y, contains-in c.other y i)));
    }
  where
    keep : (a b : ℕ) → (1 ≤ a → ⊥) → 1 ≤ a + b → 1 ≤ b
    keep zero b h l = omega arith
    keep (suc a) b h l = absurd (h (omega arith))
