-- What the definitions say of sums, where x is the variable 0 and y the variable 1.
use Rattle.std.specs.Prelude.{[], ◌∷◌, Some}
use Rattle.term_core.specs.Tree.{var}
use Rattle.spec_core.specs.Naturals.{zero_term, succ_term, plus_term}
use Rattle.matching.specs.Matching.{IsMatch, HasNoMatch}

pub record WorkedExamples : Type 0 where
  -- zero for x and succ(x) for y make plus(x, y) plus(zero, succ(x))
  pub matched : IsMatch (plus_term (var 0) (var 1)) (plus_term zero_term (succ_term (var 0)))
      (Some zero_term ∷ Some (succ_term (var 0)) ∷ [])
  -- an entry for y is no part of a match of succ(x)
  pub one_too_many :
      IsMatch (succ_term (var 0)) (succ_term zero_term) (Some zero_term ∷ Some zero_term ∷ []) → ⊥
  -- x cannot be zero and succ(zero)
  pub not_matched :
      HasNoMatch (plus_term (var 0) (var 0)) (plus_term zero_term (succ_term zero_term))
