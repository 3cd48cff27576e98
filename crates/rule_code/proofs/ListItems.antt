-- What a list has at a place after an item is written or added.
use Rattle.std.proofs.Common.{◌≡◌, ◌≢◌, ℕ, zero, suc, ◌<◌, List, [], ◌∷◌, ◌++◌, Some, None, ◌⊎◌, inl, inr, refl, ap}
use Rattle.std.proofs.Common.{arith, length, set}
use Rattle.std.specs.Prelude.{slice_get}

pub set_same : {X : Type 0} (xs : List X) (f : ℕ) (x : X) → f < length xs → slice_get (set xs f x) f ≡ Some x
set_same [] f x h = absurd (omega arith)
set_same (y ∷ ys) zero x h = refl
set_same (y ∷ ys) (suc f) x h = set_same ys f x (omega arith)

pub set_other : {X : Type 0} (xs : List X) (f g : ℕ) (x : X) → g ≢ f → slice_get (set xs f x) g ≡ slice_get xs g
set_other [] f g x h = refl
set_other (y ∷ ys) zero zero x h = absurd (h refl)
set_other (y ∷ ys) zero (suc g) x h = refl
set_other (y ∷ ys) (suc f) zero x h = refl
set_other (y ∷ ys) (suc f) (suc g) x h = set_other ys f g x (λ e. h (ap suc e))

pub at_end : {X : Type 0} (xs : List X) (x y : X) (f : ℕ) → slice_get (xs ++ x ∷ []) f ≡ Some y →
    (slice_get xs f ≡ Some y) ⊎ (x ≡ y)
at_end [] x y zero e = inr (let q : Some x ≡ Some y = e in cc)
at_end [] x y (suc f) e = absurd (let q : None ≡ Some y = e in cc)
at_end (z ∷ xs) x y zero e = inl e
at_end (z ∷ xs) x y (suc f) e = at_end xs x y f e
