-- What holds of each item of a list that is made of another one.
use Rattle.std.proofs.Common.{◌≡◌, ℕ, zero, suc, List, [], ◌∷◌, Bool, true, false, cond, refl, map, take}
use Rattle.std.specs.Prelude.{filter, flat_map}
use Rattle.std.specs.List.{AllByRecursion}
use Rattle.term_core.proofs.Items.{all_append}

pub all_of :
    {A : Type 0} (P : A → Type 0) (xs : List A) → ((a : A) → P a) → AllByRecursion P xs
all_of P [] h = tt
all_of P (x ∷ xs) h = (h x, all_of P xs h)

pub all_mapped :
    {A B : Type 0} (P : B → Type 0) (f : A → B) (xs : List A) → ((a : A) → P (f a)) →
    AllByRecursion P (map f xs)
all_mapped P f [] h = tt
all_mapped P f (x ∷ xs) h = (h x, all_mapped P f xs h)

pub all_flat :
    {A B : Type 0} (P : B → Type 0) (f : A → List B) (xs : List A) →
    AllByRecursion (λ a. AllByRecursion P (f a)) xs → AllByRecursion P (flat_map f xs)
all_flat P f [] h = tt
all_flat P f (x ∷ xs) h = all_append P (f x) (flat_map f xs) h.0 (all_flat P f xs h.1)

pub all_taken :
    {A : Type 0} (P : A → Type 0) (n : ℕ) (xs : List A) → AllByRecursion P xs →
    AllByRecursion P (take n xs)
all_taken P zero xs h = tt
all_taken P (suc n) [] h = tt
all_taken P (suc n) (x ∷ xs) h = (h.0, all_taken P n xs h.1)

all_at :
    {A : Type 0} (P : A → Type 0) (b : Bool) (x : A) (xs : List A) → (b ≡ true → P x) →
    AllByRecursion P xs → AllByRecursion P (cond b (x ∷ xs) xs)
all_at P true x xs h r = (h refl, r)
all_at P false x xs h r = r

-- each item of a filtered list was in the list and passes the test
pub all_kept :
    {A : Type 0} (P Q : A → Type 0) (p : A → Bool) (xs : List A) →
    ((a : A) → P a → p a ≡ true → Q a) → AllByRecursion P xs → AllByRecursion Q (filter p xs)
all_kept P Q p [] h all = tt
all_kept P Q p (x ∷ xs) h all =
    all_at Q (p x) x (filter p xs) (h x all.0) (all_kept P Q p xs h all.1)

pub all_filtered :
    {A : Type 0} (P : A → Type 0) (p : A → Bool) (xs : List A) → ((a : A) → p a ≡ true → P a) →
    AllByRecursion P (filter p xs)
all_filtered P p [] h = tt
all_filtered P p (x ∷ xs) h = all_at P (p x) x (filter p xs) (h x) (all_filtered P p xs h)
