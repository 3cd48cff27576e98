-- What the definitions say of naturals.
use Rattle.std.specs.Prelude.{◌≡◌, [], ◌∷◌}
use Rattle.term_core.specs.Tree.{var}
use Rattle.spec_core.specs.Declarations.{bool_sort}
use Rattle.spec_core.specs.Naturals.{nat, naturals_sig, zero_term, succ_term}
use Rattle.clause_core.specs.Insertion.{true_term, false_term}
use Rattle.test_sets.specs.TestSets.{test_set_of}
use Rattle.test_sets.specs.Covers.{IsUncovered}

pub record WorkedExamples : Type 0 where
  pub naturals : test_set_of naturals_sig nat ≡ zero_term ∷ (succ_term (var 0) ∷ [])
  pub booleans : test_set_of naturals_sig bool_sort ≡ true_term ∷ (false_term ∷ [])
  -- if zero stands alone, succ(zero) is named
  pub zero_alone : IsUncovered naturals_sig nat (zero_term ∷ []) (succ_term zero_term)
