-- Lists with one more item at the end, and lists of which the parts are the same.
use Rattle.std.proofs.Common.{◌≡◌, ◌⊎◌, ℕ, zero, suc, ◌+◌, ◌-◌, ◌<◌, ◌≤◌, List, [], ◌∷◌, ◌++◌, Some, None}
use Rattle.std.proofs.Common.{inl, inr, refl, ap, sym, ◌∙◌, subst, arith, length, length-append, get_or}
use Rattle.std.proofs.Common.{drop}
use Rattle.std.specs.Prelude.{slice_get}
use Rattle.std.proofs.lemmas.List.{drop_more}

pub some_there : {X : Type 0} (xs : List X) (p : ℕ) → p < length xs → (x : X) × (slice_get xs p ≡ Some x)
some_there [] p lt = absurd (omega (arith, lt))
some_there (x ∷ xs) zero lt = (x, refl)
some_there (x ∷ xs) (suc p) lt = some_there xs p (omega (arith, lt))

pub get_before : {X : Type 0} (xs more : List X) (p : ℕ) (x : X) → slice_get xs p ≡ Some x →
    slice_get (xs ++ more) p ≡ Some x
get_before [] more p x e = absurd (let q : None ≡ Some x = e in cc)
get_before (y ∷ xs) more zero x e = e
get_before (y ∷ xs) more (suc p) x e = get_before xs more p x e

pub get_last : {X : Type 0} (xs : List X) (x : X) → slice_get (xs ++ x ∷ []) (length xs) ≡ Some x
get_last [] x = refl
get_last (y ∷ xs) x = get_last xs x

pub at_end : {X : Type 0} (xs : List X) (x y : X) (k : ℕ) → slice_get (xs ++ x ∷ []) k ≡ Some y →
    (slice_get xs k ≡ Some y) ⊎ ((k ≡ length xs) × (x ≡ y))
at_end [] x y zero e = inr (refl, (let q : Some x ≡ Some y = e in cc))
at_end [] x y (suc k) e = absurd (let q : None ≡ Some y = e in cc)
at_end (z ∷ xs) x y zero e = inl e
at_end (z ∷ xs) x y (suc k) e =
    elim (at_end xs x y k e) [
      | inl a ↦ inl a
      | inr a ↦ inr (ap suc a.0, a.1)
    ]

-- if no two places have the same item, one that is nowhere can be added
pub distinct_more : {X : Type 0} (xs : List X) (x : X) →
    ((j k : ℕ) (y : X) → slice_get xs j ≡ Some y → slice_get xs k ≡ Some y → j ≡ k) →
    ((k : ℕ) → slice_get xs k ≡ Some x → ⊥) → (j k : ℕ) (y : X) →
    slice_get (xs ++ x ∷ []) j ≡ Some y → slice_get (xs ++ x ∷ []) k ≡ Some y → j ≡ k
distinct_more xs x distinct nowhere j k y at at' = by (at_end xs x y j at) (at_end xs x y k at')
  where
    by : (slice_get xs j ≡ Some y) ⊎ ((j ≡ length xs) × (x ≡ y)) →
        (slice_get xs k ≡ Some y) ⊎ ((k ≡ length xs) × (x ≡ y)) → j ≡ k
    by (inl a) (inl b) = distinct j k y a b
    by (inl a) (inr b) = absurd (nowhere j (a ∙ ap Some (sym b.1)))
    by (inr a) (inl b) = absurd (nowhere k (b ∙ ap Some (sym a.1)))
    by (inr a) (inr b) = a.0 ∙ sym b.0

pub append_same : {X : Type 0} (us vs xs ys : List X) → length xs ≡ length ys → us ++ xs ≡ vs ++ ys →
    (us ≡ vs) × (xs ≡ ys)
append_same [] [] xs ys n e = (refl, e)
append_same [] (v ∷ vs) xs ys n e = absurd (omega (arith, n, ap length e, length-append (v ∷ vs) ys))
append_same (u ∷ us) [] xs ys n e = absurd (omega (arith, n, ap length e, length-append (u ∷ us) xs))
append_same (u ∷ us) (v ∷ vs) xs ys n e =
    let q : (u ∷ (us ++ xs)) ≡ (v ∷ (vs ++ ys)) = e in
    let a : u ≡ v = cc in
    let b : us ++ xs ≡ vs ++ ys = cc in
    let r = append_same us vs xs ys n b in
    let c : us ≡ vs = r.0 in
    ((cc), r.1)

pub one_of_one : {X : Type 0} (xs : List X) (x y : X) → xs ++ x ∷ [] ≡ y ∷ [] → x ≡ y
one_of_one [] x y e =
    let q : (x ∷ []) ≡ (y ∷ []) = e in
    cc
one_of_one (z ∷ xs) x y e = absurd (omega (arith, ap length e, length-append xs (x ∷ [])))

pub drop_one : {X : Type 0} (xs : List X) (k : ℕ) (d : X) → 0 < k → k ≤ length xs →
    drop (k - 1) xs ≡ get_or xs (k - 1) d ∷ drop k xs
drop_one xs k d pos le =
    let e : k - 1 + 1 ≡ k = omega (arith, pos) in
    subst (λ z. drop (k - 1) xs ≡ get_or xs (k - 1) d ∷ drop z xs) e
    (drop_more xs (k - 1) d (omega (arith, pos, le)))

pub nothing_left : {X : Type 0} (xs : List X) → length xs ≡ 0 → xs ≡ []
nothing_left [] e = refl
nothing_left (x ∷ xs) e = absurd (omega (arith, e))
