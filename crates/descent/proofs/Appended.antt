-- What is in lists that are put together.
use Rattle.std.proofs.Common.{◌≡◌, ℕ, zero, suc, ◌+◌, List, [], ◌∷◌, ◌++◌, length, Some, None, ap, arith}
use Rattle.std.specs.Prelude.{slice_get}

pub get_left : {X : Type 0} (xs ys : List X) (n : ℕ) (x : X) → slice_get xs n ≡ Some x → slice_get (xs ++ ys) n ≡ Some x
get_left [] ys n x e = absurd (let q : None ≡ Some x = e in cc)
get_left (y ∷ xs) ys zero x e = e
get_left (y ∷ xs) ys (suc n) x e = get_left xs ys n x e

pub get_right : {X : Type 0} (xs ys : List X) (n m : ℕ) → m ≡ length xs + n → slice_get (xs ++ ys) m ≡ slice_get ys n
get_right [] ys n m e = let q : m ≡ n = omega (arith, e) in ap (λ k. slice_get ys k) q
get_right (x ∷ xs) ys n zero e = absurd (omega (arith, e))
get_right (x ∷ xs) ys n (suc m) e = get_right xs ys n m (omega (arith, e))
