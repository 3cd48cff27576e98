-- Items at a place of a list, the list from a place on, and answers of calls.
use Rattle.std.proofs.Common.{◌≡◌, ◌<◌, ◌≤◌, ◌+◌, ℕ, zero, suc, List, [], ◌∷◌, ◌++◌, Some, None, Result, Ok, Err, refl}
use Rattle.std.proofs.Common.{ap, sym, ◌∙◌, subst, length, get_or, take, drop, add-one, arith}
use Rattle.std.specs.Prelude.{IfOk, slice_get}
use Rattle.std.specs.List.{AllByRecursion}
use Rattle.std.proofs.lemmas.List.{take_more}

-- what holds of each item holds of the one at a place
pub all_at : {X : Type 0} (P : X → Type 0) (xs : List X) → AllByRecursion P xs → (i : ℕ) (x : X) →
    slice_get xs i ≡ Some x → P x
all_at P [] h i x at = absurd (let q : None ≡ Some x = at in cc)
all_at P (y ∷ xs) h zero x at =
    let q : Some y ≡ Some x = at in
    let k : y ≡ x = cc in
    subst P k h.0
all_at P (y ∷ xs) h (suc i) x at = all_at P xs h.1 i x at

-- the same of the item at a place within the list
pub all_at_or : {X : Type 0} (P : X → Type 0) (xs : List X) (i : ℕ) (d : X) → AllByRecursion P xs →
    i < length xs → P (get_or xs i d)
all_at_or P [] i d a h = absurd (omega arith)
all_at_or P (x ∷ xs) zero d a h = a.0
all_at_or P (x ∷ xs) (suc i) d a h = all_at_or P xs i d a.1 (omega arith)

pub all_append : {X : Type 0} (P : X → Type 0) (xs ys : List X) → AllByRecursion P xs → AllByRecursion P ys →
    AllByRecursion P (xs ++ ys)
all_append P [] ys a b = b
all_append P (x ∷ xs) ys a b = (a.0, all_append P xs ys a.1 b)

pub drop_here : {X : Type 0} (xs : List X) (i : ℕ) (x : X) → slice_get xs i ≡ Some x → drop i xs ≡ x ∷ drop (i + 1) xs
drop_here [] i x h = absurd (let q : None ≡ Some x = h in cc)
drop_here (y ∷ xs) zero x h =
    let q : Some y ≡ Some x = h in
    let k : y ≡ x = cc in
    ap (λ z. z ∷ xs) k
drop_here (y ∷ xs) (suc i) x h = rw add-one (drop_here xs i x h ∙ rw add-one refl)

pub drop_past : {X : Type 0} (xs : List X) (n : ℕ) → length xs ≤ n → drop n xs ≡ []
drop_past [] zero h = refl
drop_past [] (suc n) h = refl
drop_past (x ∷ xs) zero h = absurd (omega arith)
drop_past (x ∷ xs) (suc n) h = drop_past xs n (omega arith)

-- the list before an item, the item and the list after it
pub parted_at : {X : Type 0} (xs : List X) (i : ℕ) (x : X) → i < length xs → x ≡ get_or xs i x →
    take i xs ++ x ∷ drop (suc i) xs ≡ xs
parted_at [] i x lt is = absurd (omega arith)
parted_at (y ∷ ys) zero x lt is = ap (λ z. z ∷ ys) is
parted_at (y ∷ ys) (suc i) x lt is = ap (λ zs. y ∷ zs) (parted_at ys i x (omega arith) is)

pub taken_next : {X : Type 0} (xs : List X) (i : ℕ) (x : X) → i < length xs → x ≡ get_or xs i x →
    take (i + 1) xs ≡ take i xs ++ x ∷ []
taken_next xs i x lt is = take_more xs i x lt ∙ ap (λ z. take i xs ++ z ∷ []) (sym is)

-- what follows of an answer, if there is one
pub if_ok_map : {T E : Type 0} (r : Result T E) (P Q : T → Type 0) → ((x : T) → P x → Q x) → IfOk r P → IfOk r Q
if_ok_map (Ok x) P Q f h = f x h
if_ok_map (Err e) P Q f h = tt
