-- Membership by recursion, for proofs by cases. Definitions say `Contains`.
use Rattle.std.proofs.Common.{◌≡◌, zero, suc, List, [], ◌∷◌, ◌⊎◌, inl, inr, sym, subst, arith}
use Rattle.std.specs.List.{AllByRecursion, Contains}

-- the item is the first of the list, or one after it
abbrev pub In : {X : Type 0} → X → List X → Type 0
In x [] = ⊥
In x (y ∷ ys) = (x ≡ y) ⊎ In x ys

-- what holds of each item holds of one in the list
pub all_in : {X : Type 0} (P : X → Type 0) (xs : List X) (x : X) → AllByRecursion P xs → In x xs → P x
all_in P [] x h i = absurd i
all_in P (y ∷ ys) x h (inl p) = subst P (sym p) h.0
all_in P (y ∷ ys) x h (inr i) = all_in P ys x h.1 i

pub in_contained : {X : Type 0} (xs : List X) (x : X) → Contains xs x → In x xs
in_contained [] x c = absurd (omega (arith, c.1))
in_contained (y ∷ xs) x (zero, h, e) = inl (sym e)
in_contained (y ∷ xs) x (suc k, h, e) = inr (in_contained xs x (k, omega (arith, h), e))

pub contained_in : {X : Type 0} (xs : List X) (x : X) → In x xs → Contains xs x
contained_in [] x i = absurd i
contained_in (y ∷ xs) x (inl e) = (0, omega arith, sym e)
contained_in (y ∷ xs) x (inr i) =
    let c : Contains xs x = contained_in xs x i in
    (suc c.0, omega (arith, c.1), c.2)
