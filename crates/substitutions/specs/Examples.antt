-- What the definitions say of terms over naturals with addition, where x is the variable 0 and y
-- the variable 1.
use Rattle.std.specs.Prelude.{◌≡◌, [], ◌∷◌, Some, None}
use Rattle.term_core.specs.Tree.{var, app, none}
use Rattle.spec_core.specs.Naturals.{nat, naturals_sig, zero_term, succ_term, plus_term}
use Rattle.substitutions.specs.Substitution.{apply, IsComposed}
use Rattle.substitutions.specs.Fitting.{Fits}
use Rattle.substitutions.specs.Updates.{IsSetTo}

pub record WorkedExamples : Type 0 where
  -- succ(zero) for x makes plus(x, y) plus(succ(zero), y)
  pub first :
      apply (Some (succ_term zero_term) ∷ []) (plus_term (var 0) (var 1))
      ≡ plus_term (succ_term zero_term) (var 1)
  -- zero for y makes it plus(x, zero)
  pub second :
      apply (None ∷ Some zero_term ∷ []) (plus_term (var 0) (var 1)) ≡ plus_term (var 0) zero_term
  -- all entries are put in at once: y for x and x for y make it plus(y, x)
  pub exchanged :
      apply (Some (var 1) ∷ Some (var 0) ∷ []) (plus_term (var 0) (var 1))
      ≡ plus_term (var 1) (var 0)
  -- succ(y) for x, and then zero for y, is succ(zero) for x and zero for y
  pub composed : IsComposed (Some (succ_term (var 1)) ∷ []) (None ∷ Some zero_term ∷ [])
      (Some (succ_term zero_term) ∷ Some zero_term ∷ [])
  -- and the other order is succ(y) for x and zero for y
  pub other_order : IsComposed (None ∷ Some zero_term ∷ []) (Some (succ_term (var 1)) ∷ [])
      (Some (succ_term (var 1)) ∷ Some zero_term ∷ [])
  pub not_composed : IsComposed (Some (succ_term (var 1)) ∷ []) (None ∷ Some zero_term ∷ [])
      (Some (succ_term (var 1)) ∷ Some zero_term ∷ []) → ⊥
  -- succ(y) for x keeps the sort Nat of x if y has it; no entry for x doesn't fit, and neither
  -- does true
  pub fitting : Fits naturals_sig (nat ∷ []) (nat ∷ nat ∷ []) (Some (succ_term (var 1)) ∷ [])
  pub missing : Fits naturals_sig (nat ∷ []) (nat ∷ nat ∷ []) [] → ⊥
  pub wrong_sort : Fits naturals_sig (nat ∷ []) (nat ∷ nat ∷ []) (Some (app 0 none) ∷ []) → ⊥
  -- zero set for y, if x has no entry
  pub set : IsSetTo [] 1 zero_term (None ∷ Some zero_term ∷ [])
