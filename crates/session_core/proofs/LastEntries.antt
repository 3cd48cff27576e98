-- Lists without their last item, and nodes without the last ones.
use Rattle.std.proofs.Common.{◌≡◌, ℕ, zero, suc, ◌-◌, List, [], ◌∷◌, ◌++◌, take, refl, sym, ◌∙◌, ap, arith, length}
use Rattle.std.proofs.Common.{length-append, map}
use Rattle.std.proofs.Common.{get_or}
use Rattle.std.specs.Prelude.{Some, None, slice_get, slice_set}
use Rattle.std.proofs.lemmas.Option.{none-some}
use Rattle.std.proofs.lemmas.List.{length-map, take-map}
use Rattle.std.proofs.Math.Seq.{take-append_seam}
use Rattle.session_core.specs.Kept.{Kept}
use Rattle.session_core.specs.Value.{kept_of}
use Rattle.session_core.specs.declared.kept_goals.KeptGoal.{KeptGoal}

pub init : {A : Type 0} (xs ys : List A) (x : A) → xs ≡ ys ++ x ∷ [] → take (length xs - 1) xs ≡ ys
init xs ys x e =
    let n : length xs ≡ length (ys ++ x ∷ []) = ap (λ zs. length zs) e in
    let l : length xs - 1 ≡ length ys = omega (arith, n, length-append ys (x ∷ [])) in
    ap (λ k. take k xs) l ∙ ap (λ zs. take (length ys) zs) e ∙ take-append_seam ys (x ∷ [])

pub mapped_init : {A B : Type 0} (f : A → B) (xs : List A) (ys : List B) (y : B) → map f xs ≡ ys ++ y ∷ [] →
    map f (take (length xs - 1) xs) ≡ ys
mapped_init f xs ys y e =
    let n : length (map f xs) - 1 ≡ length xs - 1 = ap (λ k. k - 1) (length-map xs f) in
    sym (take-map f (length xs - 1) xs) ∙ ap (λ k. take k (map f xs)) (sym n) ∙ init (map f xs) ys y e

pub shorter : {A : Type 0} (xs ys zs : List A) (n : ℕ) → xs ≡ ys ++ zs → length zs ≡ n → take (length xs - n) xs ≡ ys
shorter xs ys zs n e c =
    let m : length xs ≡ length (ys ++ zs) = ap (λ k. length k) e in
    let l : length xs - n ≡ length ys = omega (arith, m, c, length-append ys zs) in
    ap (λ k. take k xs) l ∙ ap (λ ks. take (length ys) ks) e ∙ take-append_seam ys zs

pub last_same : {A : Type 0} (xs ys : List A) (x y : A) → xs ++ x ∷ [] ≡ ys ++ y ∷ [] → x ≡ y
last_same [] [] x y e = cc
last_same [] (z ∷ ys) x y e = absurd (let l : length (x ∷ []) ≡ length (z ∷ (ys ++ y ∷ [])) =
    ap (λ zs. length zs) e in omega (arith, l, length-append ys (y ∷ [])))
last_same (z ∷ xs) [] x y e = absurd (let l : length (z ∷ (xs ++ x ∷ [])) ≡ length (y ∷ []) =
    ap (λ zs. length zs) e in omega (arith, l, length-append xs (x ∷ [])))
last_same (z ∷ xs) (w ∷ ys) x y e = let k : xs ++ x ∷ [] ≡ ys ++ y ∷ [] = cc in last_same xs ys x y k

-- the last item of a list of images is the image of the last item
pub last_of : (goals : List KeptGoal) (front : List Kept) (last : Kept) (g : KeptGoal) (k : ℕ) →
    map kept_of goals ≡ front ++ last ∷ [] → k ≡ length goals - 1 → g ≡ get_or goals k g → kept_of g ≡ last
last_of [] front last g k e n at = absurd (let l : length {A = Kept} [] ≡ length (front ++ last ∷ []) =
    ap (λ zs. length zs) e in omega (arith, l, length-append front (last ∷ [])))
last_of (x ∷ []) [] last g zero e n at = let q : kept_of x ≡ last = cc in ap kept_of at ∙ q
last_of (x ∷ []) [] last g (suc k) e n at = absurd (omega (arith, n))
last_of (x ∷ []) (y ∷ front) last g k e n at =
    absurd (let l : length (kept_of x ∷ []) ≡ length (y ∷ (front ++ last ∷ [])) = ap (λ zs. length zs) e in
    omega (arith, l, length-append front (last ∷ [])))
last_of (x ∷ z ∷ goals) [] last g k e n at = absurd (let l : length (kept_of x ∷ kept_of z ∷ map kept_of goals) ≡
    length (last ∷ []) = ap (λ zs. length zs) e in omega (arith, l))
last_of (x ∷ z ∷ goals) (y ∷ front) last g zero e n at = absurd (omega (arith, n))
last_of (x ∷ z ∷ goals) (y ∷ front) last g (suc k) e n at =
    let q : map kept_of (z ∷ goals) ≡ front ++ last ∷ [] = cc in
    last_of (z ∷ goals) front last g k q (omega (arith, n)) at

-- and with another last item
pub set_last : (goals : List KeptGoal) (front : List Kept) (last : Kept) (g : KeptGoal) (k : ℕ) →
    map kept_of goals ≡ front ++ last ∷ [] → k ≡ length goals - 1 → map kept_of (slice_set goals k g) ≡ front ++
    kept_of g ∷ []
set_last [] front last g k e n = absurd (let l : length {A = Kept} [] ≡ length (front ++ last ∷ []) =
    ap (λ zs. length zs) e in omega (arith, l, length-append front (last ∷ [])))
set_last (x ∷ []) [] last g zero e n = refl
set_last (x ∷ []) [] last g (suc k) e n = absurd (omega (arith, n))
set_last (x ∷ []) (y ∷ front) last g k e n =
    absurd (let l : length (kept_of x ∷ []) ≡ length (y ∷ (front ++ last ∷ [])) = ap (λ zs. length zs) e in
    omega (arith, l, length-append front (last ∷ [])))
set_last (x ∷ z ∷ goals) [] last g k e n = absurd (let l : length (kept_of x ∷ kept_of z ∷ map kept_of goals) ≡ length
    (last ∷ []) = ap (λ zs. length zs) e in omega (arith, l))
set_last (x ∷ z ∷ goals) (y ∷ front) last g zero e n = absurd (omega (arith, n))
set_last (x ∷ z ∷ goals) (y ∷ front) last g (suc k) e n =
    let q : map kept_of (z ∷ goals) ≡ front ++ last ∷ [] = cc in
    let h : kept_of x ≡ y = cc in
    let r = set_last (z ∷ goals) front last g k q (omega (arith, n)) in
    λ i. h i ∷ r i

-- a list with an item at its last place ends in it
pub last_split : {A : Type 0} (xs : List A) (k : ℕ) (x : A) → k ≡ length xs - 1 → slice_get xs k ≡ Some x →
    (front : List A) × (xs ≡ front ++ x ∷ [])
last_split [] k x n at = absurd (none-some x at)
last_split (y ∷ []) zero x n at = let e : Some y ≡ Some x = at in let h : y ≡ x = cc in ([], ap (λ z. z ∷ []) h)
last_split (y ∷ []) (suc k) x n at = absurd (omega (arith, n))
last_split (y ∷ z ∷ xs) zero x n at = absurd (omega (arith, n))
last_split (y ∷ z ∷ xs) (suc k) x n at = let r = last_split (z ∷ xs) k x (omega (arith, n)) at in
    (y ∷ r.0, ap (λ zs. y ∷ zs) r.1)

-- and one without one is empty
pub no_last_item : {A : Type 0} (xs : List A) (k : ℕ) → k ≡ length xs - 1 → slice_get xs k ≡ None → xs ≡ []
no_last_item [] k n at = refl
no_last_item (y ∷ []) zero n at = absurd (let e : Some y ≡ None = at in cc)
no_last_item (y ∷ []) (suc k) n at = absurd (omega (arith, n))
no_last_item (y ∷ z ∷ xs) zero n at = absurd (omega (arith, n))
no_last_item {A} (y ∷ z ∷ xs) (suc k) n at = absurd (let e = no_last_item (z ∷ xs) k (omega (arith, n)) at in
    let l : length (z ∷ xs) ≡ length {A = A} [] = ap (λ zs. length zs) e in omega (arith, l))

pub not_ended : {A : Type 0} (xs : List A) (x : A) → [] ≡ xs ++ x ∷ [] → ⊥
not_ended {A} xs x e = let l : length {A = A} [] ≡ length (xs ++ x ∷ []) = ap (λ zs. length zs) e in omega (
  arith,
  l,
  length-append xs (x ∷ []),
)
