-- A specification's code, and code of terms after it.
use Rattle.std.specs.Prelude.{◌≡◌, ℕ, zero, suc, List, [], ◌∷◌, ◌++◌, Some, length, slice_get}
use Rattle.term_core.specs.Tree.{Tree}
use Rattle.spec_core.specs.declared.records.Rule.{Rule}
use Rattle.spec_core.specs.declared.records.Spec.{Spec}
use Rattle.rule_code.specs.declared.rule_codes.RuleCode.{RuleCode}
use Rattle.rule_code.specs.declared.decision_trees.DecisionTree.{DecisionTree}
use Rattle.rule_code.specs.Code.{Step, End}
use Rattle.rule_code.specs.Instructions.{Instruction, IsCodeAt}
use Rattle.rule_code.specs.Compiled.{IsBody}
use Rattle.rule_code.specs.RuleCodes.{IsRuleCode}
use Rattle.rule_code.specs.DecisionTrees.{AreTrees}

-- the specification and all code
pub record Program : Type 0 where
  pub spec : Spec
  pub code : List Instruction

abbrev pub program : Spec → List Instruction → Program
program spec code = record { spec = spec; code = code }

-- the code of the first n rules
pub record AreRuleCodes (spec : Spec) (code : List Instruction) (n : ℕ) (made : List RuleCode) :
    Type 0 where
  pub count : length made ≡ n
  pub each : (k : ℕ) (rule : Rule) (one : RuleCode) → slice_get spec.rules k ≡ Some rule
      → slice_get made k ≡ Some one → IsRuleCode spec code k rule one

-- the code of each rule, and a decision tree of each function's rules
pub record IsProgram (spec : Spec) (code : List Instruction) (rules : List RuleCode)
    (trees : List DecisionTree) : Type 0 where
  pub compiled : AreRuleCodes spec code (length spec.rules) rules
  pub indexed : AreTrees spec trees

-- the numbers below n, in their order
abbrev pub first_numbers : ℕ → List ℕ
first_numbers zero = []
first_numbers (suc n) = first_numbers n ++ n ∷ []

-- at this place begins the code of the term, whose variables, this many, are in the first slots
abbrev pub IsSide : Program → ℕ → ℕ → Tree → Type 0
IsSide p place count term = (steps : List Step) × (end : End) × IsCodeAt p.code place steps end
    × IsBody p.spec.sig (first_numbers count) term count steps end
