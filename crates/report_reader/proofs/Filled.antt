-- Parts of lists, and lists that are filled up.
use Rattle.std.proofs.Common.{◌≡◌, ℕ, zero, suc, ◌≤◌, List, [], ◌∷◌, ◌++◌, refl, ap, length, arith}
use Rattle.std.specs.List.{AllByRecursion}

pub all_left : {X : Type 0} (P : X → Type 0) (xs ys : List X) → AllByRecursion P (xs ++ ys) → AllByRecursion P xs
all_left P [] ys h = tt
all_left P (x ∷ xs) ys h = (h.0, all_left P xs ys h.1)

pub all_right : {X : Type 0} (P : X → Type 0) (xs ys : List X) → AllByRecursion P (xs ++ ys) → AllByRecursion P ys
all_right P [] ys h = h
all_right P (x ∷ xs) ys h = all_right P xs ys h.1

-- further items of this kind, with which the list has this length
pub record Filled (X : Type 0) (P : X → Type 0) (xs : List X) (n : ℕ) : Type 0 where
  pub more : List X
  pub long : length (xs ++ more) ≡ n
  pub stand : AllByRecursion P more

pub filled : {X : Type 0} (P : X → Type 0) (x : X) → P x → (xs : List X) (n : ℕ) → length xs ≤ n → Filled X P xs n
filled P x p [] zero l = record { more = []; long = refl; stand = tt }
filled P x p [] (suc n) l =
    let f = filled P x p [] n (omega arith) in
    record { more = x ∷ f.more; long = ap (λ k. suc k) f.long; stand = (p, f.stand) }
filled P x p (y ∷ xs) zero l = absurd (omega (arith, l))
filled P x p (y ∷ xs) (suc n) l =
    let f = filled P x p xs n (omega (arith, l)) in
    record { more = f.more; long = ap (λ k. suc k) f.long; stand = f.stand }
