-- What the definitions say of naturals with addition.
use Rattle.std.specs.Prelude.{◌≡◌, ℕ, List, [], ◌∷◌, codes}
use Rattle.term_core.specs.Tree.{Tree, var}
use Rattle.spec_core.specs.declared.records.Equation.{Equation}
use Rattle.spec_core.specs.declared.records.Goal.{Goal}
use Rattle.spec_core.specs.declared.records.Verdict.{Verdict}
use Rattle.spec_core.specs.declared.records.Verdict.TheVariants.{Holds, Fails}
use Rattle.spec_core.specs.Naturals.{variable, naturals, unit_goal, zero_term, succ_term, plus_term}
use Rattle.open_evaluation.specs.OpenGives.{OpenGives}
use Rattle.open_evaluation.specs.OpenVerdict.{opened, AreDifferent, IsOpenVerdict}

abbrev pub equation : Tree → Tree → Equation
equation left right = record { left = left; right = right }

-- a goal of the variables x and y
abbrev pub goal_of : List Equation → List Equation → Goal
goal_of premises conclusions =
    record {
      name = codes "goal";
      vars = variable (codes "x") ∷ variable (codes "y") ∷ [];
      premises = premises;
      conclusions = conclusions;
    }

-- plus(zero, x) = x
abbrev pub left_unit : Goal
left_unit = goal_of [] (equation (plus_term zero_term (var 0)) (var 0) ∷ [])

-- succ(x) = zero
abbrev pub no_successor : Goal
no_successor = goal_of [] (equation (succ_term (var 0)) zero_term ∷ [])

-- x = y
abbrev pub one_natural : Goal
one_natural = goal_of [] (equation (var 0) (var 1) ∷ [])

-- if x = zero, then x = y
abbrev pub zero_alone : Goal
zero_alone = goal_of (equation (var 0) zero_term ∷ []) (equation (var 0) (var 1) ∷ [])

pub record WorkedExamples : Type 0 where
  -- plus(succ(zero), x) gives succ(x) by two uses of rules, whatever x is
  pub one_more : OpenGives naturals (plus_term (succ_term zero_term) (var 0)) (succ_term (var 0)) 2
  -- after a fixed value the variables stand for themselves
  pub one_fixed : opened (zero_term ∷ []) 3 ≡ zero_term ∷ var 1 ∷ var 2 ∷ []
  -- succ(zero) and succ(succ(zero)) are different, and succ(x) and succ(zero) may be the same
  pub two_numbers : AreDifferent (succ_term zero_term) (succ_term (succ_term zero_term))
  pub open_number : AreDifferent (succ_term (var 0)) (succ_term zero_term) → ⊥
  -- plus(zero, x) = x holds by one use of a rule, and succ(x) = zero fails, with no variable fixed
  pub holds : IsOpenVerdict naturals (opened [] 2) 1 left_unit Holds
  pub fails : IsOpenVerdict naturals (opened [] 2) 0 no_successor Fails
  -- if x is succ(zero), the goal whose premise is x = zero holds without y
  pub premise_broken : IsOpenVerdict naturals (opened (succ_term zero_term ∷ []) 2) 0 zero_alone
      Holds
  -- the walk has no verdict of plus(zero, x) = x without a use of a rule, none of plus(x, zero) = x at any budget, and
  -- none of x = y
  pub spent : (r : Verdict) → IsOpenVerdict naturals (opened [] 2) 0 left_unit r → ⊥
  pub stuck : (budget : ℕ) (r : Verdict) → IsOpenVerdict naturals (opened [] 1) budget unit_goal r
      → ⊥
  pub undecided : (budget : ℕ) (r : Verdict)
      → IsOpenVerdict naturals (opened [] 2) budget one_natural r → ⊥
