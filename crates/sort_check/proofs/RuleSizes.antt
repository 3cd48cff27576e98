-- The rules that raw rules stand for are no larger than these.
use Rattle.std.proofs.Common.{ℕ, ◌≤◌, List, arith}
use Rattle.term_core.specs.Tree.{Tree, tree_size}
use Rattle.spec_core.specs.declared.records.Guard.{Guard}
use Rattle.spec_core.specs.declared.records.Rule.{Rule}
use Rattle.spec_core.specs.declared.records.Spec.{Spec}
use Rattle.spec_core.specs.Sig.{Sig}
use Rattle.spec_core.specs.RuleSizes.{RuleIsWithin, RulesAreWithin}
use Rattle.spec_core.specs.TermText.{variable_names}
use Rattle.spec_grammar.specs.RawTree.{RawTree}
use Rattle.spec_grammar.specs.Sizes.{words, RuleHasFewWords, HasFewWords}
use Rattle.spec_grammar.specs.declared.raw.RawGuard.{RawGuard}
use Rattle.spec_grammar.specs.declared.raw.RawRule.{RawRule}
use Rattle.spec_grammar.specs.declared.raw.RawSpec.{RawSpec}
use Rattle.sort_check.specs.Terms.{TermStands}
use Rattle.sort_check.specs.Rules.{GuardStands, RuleStands}
use Rattle.sort_check.specs.StandsFor.{IsNumbered}
use Rattle.sort_check.proofs.KeptSizes.{same_size}
use Rattle.sort_check.proofs.Pairs.{pairs_have}

module _ (n : ℕ) where
  module _ (sig : Sig) where
    term_is_within : (names : List (List ℕ)) (raw : RawTree) (t : Tree) → words raw ≤ n →
        TermStands sig names raw t → tree_size t ≤ n
    term_is_within names raw t few stands = omega (arith, same_size sig names raw t stands)

    rule_is_within : (raw : RawRule) (rule : Rule) → RuleHasFewWords n raw → RuleStands sig raw rule →
        RuleIsWithin n rule
    rule_is_within raw rule few stands =
        let names = variable_names rule.vars in (
          term_is_within names raw.left rule.left few.0 stands.left,
          term_is_within names raw.right rule.right few.1 stands.right,
          pairs_have (GuardStands sig names) (λ (g : RawGuard). words g.test ≤ n)
              (λ (g : Guard). tree_size g.test ≤ n) (λ r g k p. term_is_within names r.test g.test k p.0)
              raw.guards rule.guards few.2 stands.guards,
        )

  pub rules_are_within : (raw : RawSpec) (spec : Spec) → HasFewWords n raw → IsNumbered raw spec → RulesAreWithin n spec
  rules_are_within raw spec few stands = pairs_have (RuleStands spec.sig) (RuleHasFewWords n) (RuleIsWithin n)
      (rule_is_within spec.sig) raw.rules spec.rules few.0 stands.rules
