-- Numbers of variables, over lists of terms.
use Rattle.std.proofs.Common.{◌≡◌, ℕ, zero, suc, ◌+◌, ◌<◌, List, [], ◌∷◌, ◌⊎◌, inl, inr, refl, ap, sym, Err, Result}
use Rattle.std.proofs.Common.{subst, map, take, length, get_or, add-one, arith}
use Rattle.std.specs.Result.{IsErrAnd}
use Rattle.term_core.specs.Tree.{Tree, some, trees_of}
use Rattle.term_core.specs.Variables.{Occurs, OccursAny}
use Rattle.unifier.specs.declared.shifting.ShiftError.{ShiftError}
use Rattle.unifier.specs.Shifting.{shifted, shifted_all, HasTooLarge, HaveTooLarge}

pub shifted_all-trees_of : (by : ℕ) (ts : List Tree) → shifted_all by (trees_of ts) ≡ trees_of (map (shifted by) ts)
shifted_all-trees_of by [] = refl
shifted_all-trees_of by (t ∷ ts) = ap (λ us. some (shifted by t) us) (shifted_all-trees_of by ts)

occurs_member : (xs : List Tree) (i : ℕ) (x : Tree) (n : ℕ) → i < length xs → x ≡ get_or xs i x → Occurs n x →
    OccursAny n (trees_of xs)
occurs_member [] i x n h e o = absurd (omega arith)
occurs_member (y ∷ ys) zero x n h e o = inl (subst (λ t. Occurs n t) e o)
occurs_member (y ∷ ys) (suc i) x n h e o = inr (occurs_member ys i x n (omega arith) e o)

occurs_more : (xs : List Tree) (i : ℕ) (x : Tree) (n : ℕ) → i < length xs → x ≡ get_or xs i x →
    OccursAny n (trees_of (take (suc i) xs)) → OccursAny n (trees_of (take i xs)) ⊎ Occurs n x
occurs_more [] i x n h e o = absurd (omega arith)
occurs_more (y ∷ ys) zero x n h e (inl o) = inr (subst (λ t. Occurs n t) (let k : y ≡ x = cc in k) o)
occurs_more (y ∷ ys) zero x n h e (inr o) = absurd o
occurs_more (y ∷ ys) (suc i) x n h e (inl o) = inl (inl o)
occurs_more (y ∷ ys) (suc i) x n h e (inr o) = elim (occurs_more ys i x n (omega arith) e o)
    [ inl k ↦ inl (inr k) | inr k ↦ inr k ]

-- a term with too large a number makes the list so
pub too_large_member : (by : ℕ) (xs : List Tree) (i : ℕ) (x : Tree) → i < length xs → x ≡ get_or xs i x →
    HasTooLarge by x → HaveTooLarge by (trees_of xs)
too_large_member by xs i x h e w = (w.0, occurs_member xs i x w.0 h e w.1, w.2)

-- one more term without too large a number
pub within_more : (by : ℕ) (xs : List Tree) (i : ℕ) (x : Tree) → i < length xs → x ≡ get_or xs i x →
    (HaveTooLarge by (trees_of (take i xs)) → ⊥) → (HasTooLarge by x → ⊥) →
    HaveTooLarge by (trees_of (take (i + 1) xs)) → ⊥
within_more by xs i x h e before here w =
    let o : OccursAny w.0 (trees_of (take (suc i) xs)) = subst (λ k. OccursAny w.0 (trees_of (take k xs)))
    (add-one i) w.1 in
    elim (occurs_more xs i x w.0 h e o) [ inl k ↦ before (w.0, k, w.2) | inr k ↦ here (w.0, k, w.2) ]

-- the error that a step passes on
pub same_error : {T : Type 0} (r : Result T ShiftError) (x y : ShiftError) → r ≡ Err x → IsErrAnd r (λ v. v ≡ y) → y ≡ x
same_error {T} r x y e h = let k : IsErrAnd {T = T} (Err x) (λ (v : ShiftError). v ≡ y) = rw e at h in sym k
