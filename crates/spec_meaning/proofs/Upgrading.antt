-- What declarations stand for in one format they stand for in format 2, whose tests allow more.
use Rattle.std.proofs.Common.{ℕ, ◌≤◌, List, [], ◌∷◌, ◌++◌, Option, Some, None, Bool, true, false, cond, arith}
use Rattle.std.specs.Prelude.{◌==◌}
use Rattle.spec_core.specs.Sig.{Sig}
use Rattle.spec_core.specs.Findings.{Clean, each_after}
use Rattle.spec_core.specs.declared.records.Spec.{Spec}
use Rattle.spec_core.specs.declared.records.OrderInfo.{OrderInfo}
use Rattle.spec_core.specs.declared.records.OrderInfo.TheVariants.{Path, Weights}
use Rattle.spec_grammar.specs.RawTree.{RawTree, RawTrees, word, none as no_raws, some as more_raws}
use Rattle.spec_grammar.specs.declared.raw.RawRule.{RawRule}
use Rattle.spec_grammar.specs.declared.raw.RawSpec.{RawSpec}
use Rattle.spec_printing.specs.Upgraded.{upgraded}
use Rattle.sort_check.specs.Limits.{most_rules_of_one}
use Rattle.sort_check.specs.DeclarationTests.{sig_of}
use Rattle.sort_check.specs.Orders.{OrderStands}
use Rattle.sort_check.specs.RuleTests.{root_tests, left_tests, rule_tests}
use Rattle.sort_check.specs.StandsFor.{StandsFor}

few : (b : Bool) → cond b 128 64 ≤ 128
few true = omega arith
few false = omega arith

few_of_one : (version : ℕ) → most_rules_of_one version ≤ 128
few_of_one version = few (version == 2)

-- if a function may have more rules, the tests find no more
module _ (sig : Sig) (most more : ℕ) (le : most ≤ more) where
  clean_root : (at size before : ℕ) (args : RawTrees) (f : Option ℕ) →
      Clean (root_tests sig most at size before args f) → Clean (root_tests sig more at size before args f)
  clean_root at size before args (Some f) k = (k.0, ((λ many. k.1.0 (omega (arith, le, many))), k.1.1))
  clean_root at size before no_raws None k = k
  clean_root at size before (more_raws t ts) None k = k

  clean_left : (before : List RawRule) (left : RawTree) (rule : RawRule) →
      Clean (left_tests sig most before left rule) → Clean (left_tests sig more before left rule)
  clean_left before (word name at args) rule k = (clean_root at _ _ args _ k.0, k.1)

  clean_rules : (before rules : List RawRule) → Clean (each_after (rule_tests sig most) before rules) →
      Clean (each_after (rule_tests sig more) before rules)
  clean_rules before [] k = k
  clean_rules before (rule ∷ rules) k =
      (clean_left before rule.left rule k.0, clean_rules (before ++ rule ∷ []) rules k.1)

order_stands : (raw : RawSpec) (sig : Sig) (order : OrderInfo) → OrderStands raw sig order →
    OrderStands (upgraded raw) sig order
order_stands raw sig (Path levels statuses) stands = stands
order_stands raw sig (Weights given) stands = stands

pub upgraded_stands : (raw : RawSpec) (spec : Spec) → StandsFor raw spec → StandsFor (upgraded raw) spec
upgraded_stands raw spec s =
    let k = s.clean in
    let n = s.numbered in
    let rules = clean_rules (sig_of raw) (most_rules_of_one raw.version) 128 (few_of_one raw.version) []
    raw.rules k.1.1.0 in
    record {
      clean = (k.0, (k.1.0, (rules, k.1.1.1)));
      numbered = record {
        signature = record {
          constructors = n.signature.constructors;
          functions = n.signature.functions;
          is = n.signature.is;
          each_constructor = n.signature.each_constructor;
          each_function = n.signature.each_function;
        };
        declared = n.declared;
        order = order_stands raw spec.sig spec.order n.order;
        rules = n.rules;
        goals = n.goals;
        names = n.names;
      };
    }
