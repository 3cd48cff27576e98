-- Which item is first in lists one after the other, and in what is left of a list.
use Rattle.std.proofs.Common.{◌≡◌, ℕ, suc, ◌+◌, ◌<◌, List, [], ◌∷◌, ◌++◌, refl, sym, ◌∙◌, arith, length, take, drop}
use Rattle.std.proofs.Common.{get_or}
use Rattle.std.specs.Prelude.{Option, Result, Ok, Err, IfOk}
use Rattle.std.proofs.Math.Seq.{drop-cons}
use Rattle.term_core.specs.declared.ids.VarId.{VarId}
use Rattle.clause_places.specs.Demand.{IsFirst}

module _ {X : Type 0} where
  -- of two lists one after the other it is the first one's, if that has one
  pub first_before :
      (xs ys : List X) (x : X) → take 1 xs ≡ x ∷ [] → take 1 (xs ++ ys) ≡ x ∷ []
  first_before [] ys x e = absurd (let q : [] ≡ x ∷ [] = e in cc)
  first_before (y ∷ xs) ys x e = e

  pub first_behind : (xs ys : List X) → take 1 xs ≡ [] → take 1 (xs ++ ys) ≡ take 1 ys
  first_behind [] ys e = refl
  first_behind (x ∷ xs) ys e = absurd (let q : x ∷ [] ≡ [] = e in cc)

  -- a list from an item on
  pub from_item :
      (xs : List X) (k : ℕ) (x : X) → k < length xs → x ≡ get_or xs k x →
      drop k xs ≡ x ∷ drop (k + 1) xs
  from_item xs k x lt is =
      let next : suc k ≡ k + 1 = omega arith in
      drop-cons xs k x lt ∙ (λ i. sym is i ∷ drop (next i) xs)

-- what is first in a list is first in another one that begins with the same item
pub first_as :
    {E : Type 0} (r : Result (Option VarId) E) (xs ys : List ℕ) → take 1 xs ≡ take 1 ys →
    IfOk r (IsFirst ys) → IfOk r (IsFirst xs)
first_as (Ok o) xs ys e h = e ∙ h
first_as (Err x) xs ys e h = tt
