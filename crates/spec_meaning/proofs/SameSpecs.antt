-- Places don't matter for what a raw specification stands for.
use Rattle.std.proofs.Common.{◌≡◌, sym, subst}
use Rattle.std.specs.Prelude.{[]}
use Rattle.spec_core.specs.declared.records.Spec.{Spec}
use Rattle.spec_core.specs.Sig.{Sig}
use Rattle.spec_core.specs.Findings.{Clean, each_after}
use Rattle.spec_grammar.specs.declared.raw.RawSpec.{RawSpec}
use Rattle.spec_printing.specs.SamePlaces.{IsSameButPlaces}
use Rattle.sort_check.specs.DeclarationTests.{sig_of}
use Rattle.sort_check.specs.Limits.{most_rules_of_one}
use Rattle.sort_check.specs.OrderTests.{order_tests}
use Rattle.sort_check.specs.RuleTests.{rule_tests}
use Rattle.sort_check.specs.GoalTests.{goal_tests}
use Rattle.sort_check.specs.FirstFault.{HasNoFault}
use Rattle.sort_check.specs.StandsFor.{IsNumbered, StandsFor}
use Rattle.spec_meaning.proofs.SameDeclarations.{same_sig, clean_declarations, signature_stands}
use Rattle.spec_meaning.proofs.SameOrders.{clean_orders, orders_stand}
use Rattle.spec_meaning.proofs.SameRules.{clean_rules, rules_stand}
use Rattle.spec_meaning.proofs.SameGoals.{clean_goals, goals_stand}

module _ (raw other : RawSpec) (same : IsSameButPlaces raw other) where
  no_fault : HasNoFault other → HasNoFault raw
  no_fault k =
      let sig : sig_of other ≡ sig_of raw = sym (same_sig raw other same) in
      let rules =
      subst (λ n. Clean (each_after (rule_tests (sig_of other) (most_rules_of_one n)) [] other.rules))
      (sym same.version) k.1.1.0 in (
        clean_declarations raw other same k.0,
        (
          clean_orders (sig_of raw) raw other same
              (subst (λ (s : Sig). Clean (order_tests s other)) sig k.1.0),
          (
            clean_rules (sig_of raw) (most_rules_of_one raw.version) raw.rules other.rules same.rules
                (subst (λ (s : Sig). Clean (each_after (rule_tests s (most_rules_of_one raw.version)) [] other.rules))
                sig rules),
            clean_goals (sig_of raw) raw.goals other.goals same.goals
                (subst (λ (s : Sig). Clean (each_after (goal_tests s) [] other.goals)) sig k.1.1.1),
          ),
        ),
      )

  numbered : (spec : Spec) → IsNumbered other spec → IsNumbered raw spec
  numbered spec n = record {
    signature = signature_stands raw other spec.sig same n.signature;
    declared = n.declared;
    order = orders_stand spec.sig raw other same spec.order n.order;
    rules = rules_stand spec.sig raw.rules other.rules spec.rules same.rules n.rules;
    goals = goals_stand spec.sig raw.goals other.goals spec.goals same.goals n.goals;
    names = n.names;
  }

  pub same_stands : (spec : Spec) → StandsFor other spec → StandsFor raw spec
  same_stands spec s = record { clean = no_fault s.clean; numbered = numbered spec s.numbered }
