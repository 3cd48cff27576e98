-- What the definitions say of sums, where x is the variable 0 and y the variable 1.
use Rattle.std.specs.Prelude.{◌≡◌, [], ◌∷◌, Some, None}
use Rattle.term_core.specs.Tree.{var}
use Rattle.spec_core.specs.Naturals.{zero_term, succ_term, plus_term}
use Rattle.unifier.specs.Unification.{IsUnifier, HaveNoUnifier, IsMostGeneral, IsRelevant}
use Rattle.unifier.specs.Shifting.{shifted, HasTooLarge}

pub record WorkedExamples : Type 0 where
  -- zero for x and y is a unifier of x and y, and y for x is a most general one
  pub unified : IsUnifier (var 0) (var 1) (Some zero_term ∷ Some zero_term ∷ [])
  pub not_general : IsMostGeneral (var 0) (var 1) (Some zero_term ∷ Some zero_term ∷ []) → ⊥
  pub general : IsMostGeneral (var 0) (var 1) (Some (var 1) ∷ [])
  -- y for x is relevant there, and with the variables 2 and 3 exchanged too it isn't
  pub relevant : IsRelevant (var 0) (var 1) (Some (var 1) ∷ [])
  pub not_relevant :
      IsRelevant (var 0) (var 1) (Some (var 1) ∷ None ∷ Some (var 3) ∷ Some (var 2) ∷ []) → ⊥
  -- plus(x, zero) and plus(succ(y), y) have one if x is succ(zero) and y is zero
  pub sums : IsMostGeneral (plus_term (var 0) zero_term) (plus_term (succ_term (var 1)) (var 1))
      (Some (succ_term zero_term) ∷ Some zero_term ∷ [])
  -- zero and succ(x) have none (clash), and neither have x and succ(x) (occurs test)
  pub clash : HaveNoUnifier zero_term (succ_term (var 0))
  pub occurs : HaveNoUnifier (var 0) (succ_term (var 0))
  -- plus(x, y) shifted by 2
  pub shifted_sum : shifted 2 (plus_term (var 0) (var 1)) ≡ plus_term (var 2) (var 3)
  -- the last number can't be shifted by 1, and the one before it can
  pub too_large : HasTooLarge 1 (var 4294967295)
  pub not_too_large : HasTooLarge 1 (var 4294967294) → ⊥
