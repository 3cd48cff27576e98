-- The rule that a raw rule stands for.
use Rattle.std.specs.Prelude.{◌≡◌, ℕ, ◌≤◌, List, [], length}
use Rattle.std.specs.List.{AllByRecursion, AllZip}
use Rattle.term_core.specs.declared.ids.SortId.{SortId}
use Rattle.spec_core.specs.declared.records.Guard.{Guard}
use Rattle.spec_core.specs.declared.records.Rule.{Rule}
use Rattle.spec_core.specs.Sig.{Sig}
use Rattle.spec_core.specs.Sorts.{Sorted}
use Rattle.spec_core.specs.Declarations.{AreNewNames, bool_sort}
use Rattle.term_core.specs.Variables.{Numbered}
use Rattle.spec_core.specs.WellSorted.{IsLeft, sorts_of}
use Rattle.spec_core.specs.TermText.{variable_names}
use Rattle.spec_grammar.specs.declared.raw.RawGuard.{RawGuard}
use Rattle.spec_grammar.specs.declared.raw.RawRule.{RawRule}
use Rattle.sort_check.specs.Terms.{TermStands}

abbrev pub GuardStands : Sig → List (List ℕ) → RawGuard → Guard → Type 0
GuardStands sig names raw guard =
    TermStands sig names raw.test guard.test × (guard.wanted ≡ raw.wanted)

-- the sides and the guards are terms over the rule's variables, which have distinct names and are numbered by first
-- occurrence on the left side, a function before constructor patterns; both sides have one sort, and each test is Boolean
pub record RuleStands (sig : Sig) (raw : RawRule) (rule : Rule) : Type 0 where
  pub names : AreNewNames [] (variable_names rule.vars)
  pub left : TermStands sig (variable_names rule.vars) raw.left rule.left
  pub right : TermStands sig (variable_names rule.vars) raw.right rule.right
  pub guards : AllZip (GuardStands sig (variable_names rule.vars)) raw.guards rule.guards
  pub head : IsLeft sig rule.left
  pub numbered : Numbered 0 rule.left (length (sorts_of rule.vars))
  pub few_variables : length rule.vars ≤ 16
  pub sides : (s : SortId) × Sorted sig (sorts_of rule.vars) rule.left s
      × Sorted sig (sorts_of rule.vars) rule.right s
  pub tests : AllByRecursion (λ (g : Guard). Sorted sig (sorts_of rule.vars) g.test bool_sort)
      rule.guards
