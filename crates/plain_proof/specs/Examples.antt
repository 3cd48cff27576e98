-- What the definitions say of naturals with addition.
use Rattle.std.specs.Prelude.{ℕ, [], ◌∷◌, codes}
use Rattle.term_core.specs.Tree.{var}
use Rattle.spec_core.specs.declared.records.Goal.{Goal}
use Rattle.spec_core.specs.Naturals.{naturals, unit_goal, variable, zero_term, succ_term, plus_term}
use Rattle.normalization.specs.FirstUses.{Before, IsFirstUse}
use Rattle.normalization.specs.NormalForms.{IsNormal}
use Rattle.plain_proof.specs.PlainProofs.{IsPlain}

-- goal moved(x : Nat, y : Nat) : plus(succ(x), y) = succ(plus(x, y))
abbrev pub moved_goal : Goal
moved_goal = record {
  name = codes "moved";
  vars = variable (codes "x") ∷ variable (codes "y") ∷ [];
  premises = [];
  conclusions = record {
    left = plus_term (succ_term (var 0)) (var 1);
    right = succ_term (plus_term (var 0) (var 1));
  } ∷ [];
}

-- goal equal(x : Nat, y : Nat) : x = y
abbrev pub equal_goal : Goal
equal_goal = record {
  name = codes "equal";
  vars = variable (codes "x") ∷ variable (codes "y") ∷ [];
  premises = [];
  conclusions = record { left = var 0; right = var 1 } ∷ [];
}

pub record WorkedExamples : Type 0 where
  -- arguments come from the left before their symbol: 1.2 is before 1, which is before 2
  pub below_first : Before (1 ∷ 2 ∷ []) (1 ∷ [])
  pub left_first : Before (1 ∷ []) (2 ∷ [])
  pub root_last : Before [] (1 ∷ []) → ⊥
  -- plus(zero, plus(zero, y)) is rewritten at 2 first
  pub inner_first :
      IsFirstUse naturals (plus_term zero_term (plus_term zero_term (var 0))) (2 ∷ []) 1
      (plus_term zero_term (var 0))
  -- plus(x, zero) is normal
  pub open_sum_is_normal : IsNormal naturals (plus_term (var 0) zero_term)
  -- plus(x, zero) = x has a plain proof on x of length 10: the cases have 1 use and sizes 1 and 1,
  -- and 1 use and sizes 4 and 2
  pub unit_is_plain : IsPlain naturals unit_goal 0 10
  -- plus(succ(x), y) = succ(plus(x, y)) has one of length 20: 3 uses and sizes 2 and 2, and 3 uses
  -- and sizes 5 and 5
  pub moved_is_plain : IsPlain naturals moved_goal 0 20
  -- plus(x, zero) = x has none on a second variable
  pub not_on_another : (n : ℕ) → IsPlain naturals unit_goal 1 n → ⊥
  -- x = y has none, since it would be an instance of itself without a use
  pub equal_is_not_plain : (n : ℕ) → IsPlain naturals equal_goal 0 n → ⊥
