-- Searches of each element: no test finds something, or one is the first that does.
use Rattle.std.proofs.Common.{◌≡◌, ℕ, zero, suc, ◌+◌, ◌<◌, ◌≤◌, List, [], ◌∷◌, ◌++◌, Some, None, inl, inr, refl, subst}
use Rattle.std.proofs.Common.{arith, length, length-append}
use Rattle.std.specs.Prelude.{slice_get}
use Rattle.std.specs.List.{range_with_len}
use Rattle.spec_core.specs.Findings.{Search, Clean, First, each, each_after}

module _ {F A : Type 0} (f : List A → A → Search F) where
  pub after_clean : (before xs : List A) → ((k : ℕ) (x : A) (ys : List A) → slice_get xs k ≡ Some x →
      Clean (f ys x)) → Clean (each_after f before xs)
  after_clean before [] h = tt
  after_clean before (x ∷ xs) h = (
    h 0 x before refl,
    after_clean (before ++ x ∷ []) xs (λ k y ys at. h (suc k) y ys at),
  )

  first_after : (before xs : List A) (k : ℕ) (x : A) (e : F) → slice_get xs k ≡ Some x →
      ((j : ℕ) (y : A) (ys : List A) → j < k → slice_get xs j ≡ Some y → Clean (f ys y)) →
      ((ys : List A) → length ys ≡ length before + k → First (f ys x) e) → First (each_after f before xs) e
  first_after before [] k x e at clean first = absurd (let q : None ≡ Some x = at in cc)
  first_after before (y ∷ ys) zero x e at clean first =
      let q : Some y ≡ Some x = at in
      let same : x ≡ y = cc in
      inl (subst (λ z. First (f before z) e) same (first before (omega arith)))
  first_after before (y ∷ ys) (suc k) x e at clean first =
      inr (
        clean 0 y before (omega arith) refl,
        first_after (before ++ y ∷ []) ys k x e at (λ j z zs l. clean (suc j) z zs (omega (arith, l)))
            (λ zs l. first zs (omega (arith, l, length-append before (y ∷ [])))),
      )

  -- the tests of the elements before this place find nothing, and those of this one find the fault
  pub first_at : (xs : List A) (k : ℕ) (x : A) (e : F) → slice_get xs k ≡ Some x →
      ((j : ℕ) (y : A) (ys : List A) → j < k → slice_get xs j ≡ Some y → Clean (f ys y)) →
      ((ys : List A) → length ys ≡ k → First (f ys x) e) → First (each_after f [] xs) e
  first_at xs k x e at clean first = first_after [] xs k x e at clean (λ ys l. first ys (omega (arith, l)))

  -- what finds the first fault is an element, and what is tested at each element before it finds nothing
  first_in : (before xs : List A) (e : F) → First (each_after f before xs) e → (k : ℕ) × (x : A) × (ys : List A)
      × (slice_get xs k ≡ Some x) × (length ys ≡ length before + k) × First (f ys x) e
      × ((j : ℕ) (y : A) → j < k → slice_get xs j ≡ Some y → (zs : List A) × Clean (f zs y))
  first_in before [] e h = absurd h
  first_in before (x ∷ xs) e (inl h) = (0, x, before, refl, omega arith, h, λ j y l at. absurd (omega (arith, l)))
  first_in before (x ∷ xs) e (inr (c, h)) = later (first_in (before ++ x ∷ []) xs e h)
    where
      later : ((k : ℕ) × (y : A) × (ys : List A) × (slice_get xs k ≡ Some y)
          × (length ys ≡ length (before ++ x ∷ []) + k) × First (f ys y) e
          × ((j : ℕ) (z : A) → j < k → slice_get xs j ≡ Some z → (zs : List A) × Clean (f zs z))) →
          (k : ℕ) × (y : A) × (ys : List A) × (slice_get (x ∷ xs) k ≡ Some y) × (length ys ≡ length before + k)
          × First (f ys y) e × ((j : ℕ) (z : A) → j < k → slice_get (x ∷ xs) j ≡ Some z →
          (zs : List A) × Clean (f zs z))
      later (k, y, ys, at, long, found, clean) = (
        suc k,
        y,
        ys,
        at,
        omega (arith, long, length-append before (x ∷ [])),
        found,
        earlier,
      )
        where
          earlier : (j : ℕ) (z : A) → j < suc k → slice_get (x ∷ xs) j ≡ Some z → (zs : List A) × Clean (f zs z)
          earlier zero z l there = let q : Some x ≡ Some z = there in let same : x ≡ z = cc in
              (before, subst (λ w. Clean (f before w)) same c)
          earlier (suc j) z l there = clean j z (omega (arith, l)) there

  pub first_found : (xs : List A) (e : F) → First (each_after f [] xs) e → (k : ℕ) × (x : A) × (ys : List A)
      × (slice_get xs k ≡ Some x) × (length ys ≡ k) × First (f ys x) e
      × ((j : ℕ) (y : A) → j < k → slice_get xs j ≡ Some y → (zs : List A) × Clean (f zs y))
  first_found xs e h = let r = first_in [] xs e h in (r.0, r.1, r.2, r.3, omega (arith, r.4), r.5, r.6)

-- the same for numbers from one on
module _ {F : Type 0} (f : ℕ → Search F) where
  pub from_clean : (from count : ℕ) → ((n : ℕ) → from ≤ n → Clean (f n)) → Clean (each f (range_with_len from count))
  from_clean from zero h = tt
  from_clean from (suc count) h = (h from (omega arith), from_clean (from + 1) count (λ n l. h n (omega arith)))

  pub first_from : (from count k : ℕ) (e : F) → k < count → ((n : ℕ) → from ≤ n → n < from + k → Clean (f n)) →
      First (f (from + k)) e → First (each f (range_with_len from count)) e
  first_from from zero k e l clean first = absurd (omega arith)
  first_from from (suc count) zero e l clean first = inl (let z : from + 0 ≡ from = omega arith in
      subst (λ n. First (f n) e) z first)
  first_from from (suc count) (suc k) e l clean first =
      let next : from + suc k ≡ (from + 1) + k = omega arith in
      inr (
        clean from (omega arith) (omega arith),
        first_from (from + 1) count k e (omega arith) (λ n a b. clean n (omega arith) (omega arith))
            (subst (λ n. First (f n) e) next first),
      )
