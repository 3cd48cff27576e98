-- The code of a rule.
use Rattle.std.specs.Prelude.{ℕ, List}
use Rattle.spec_core.specs.declared.records.Rule.{Rule}
use Rattle.spec_core.specs.declared.records.Spec.{Spec}
use Rattle.rule_code.specs.declared.rule_codes.RuleCode.{RuleCode}
use Rattle.rule_code.specs.Instructions.{Instruction}
use Rattle.rule_code.specs.Homes.{IsLeftSide}
use Rattle.rule_code.specs.Blocks.{HaveBlocks}
use Rattle.rule_code.specs.Branches.{AreBranches}

-- its left side as tests, its guards and its right side as blocks, and for each guard the rules that go on
pub record IsRuleCode (spec : Spec) (code : List Instruction) (number : ℕ) (rule : Rule)
    (made : RuleCode) : Type 0 where
  pub left : IsLeftSide rule made.left
  pub blocks : HaveBlocks spec.sig code number rule made.left made.begins.items
  pub branches : AreBranches spec.rules rule made.branches.items
