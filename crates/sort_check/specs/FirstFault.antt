-- The first fault of a raw specification, in the stated order.
use Rattle.std.specs.Prelude.{ℕ, [], None}
use Rattle.spec_core.specs.Sig.{Sig}
use Rattle.spec_core.specs.Findings.{Search, then, each_after, Clean, First}
use Rattle.spec_grammar.specs.RawTree.{RawTree}
use Rattle.spec_grammar.specs.declared.raw.RawSpec.{RawSpec}
use Rattle.sort_check.specs.Words.{term_tests}
use Rattle.sort_check.specs.DeclarationTests.{declarations_tests, sig_of}
use Rattle.sort_check.specs.OrderTests.{order_tests}
use Rattle.sort_check.specs.Limits.{most_rules_of_one}
use Rattle.sort_check.specs.RuleTests.{rule_tests}
use Rattle.sort_check.specs.GoalTests.{goal_tests}
use Rattle.sort_check.specs.declared.faults.SortFault.{SortFault}
use Rattle.sort_check.specs.declared.faults.SortFault.TheVariants.{Sort}
use Rattle.sort_check.specs.declared.faults.SortKind.{SortKind}
use Rattle.sort_check.specs.declared.faults.SortKind.TheVariants.{WrongSort}
use Rattle.sort_check.specs.declared.faults.Part.TheVariants.{Ground}

-- faults are looked for in the declarations, then in the lines that give an order, then in the rules in order, then in the
-- goals in order
abbrev pub spec_tests : RawSpec → Search SortFault
spec_tests raw = then (declarations_tests raw)
    (then (order_tests (sig_of raw) raw)
    (then (each_after (rule_tests (sig_of raw) (most_rules_of_one raw.version)) [] raw.rules)
    (each_after (goal_tests (sig_of raw)) [] raw.goals)))

-- no test finds a fault
abbrev pub HasNoFault : RawSpec → Type 0
HasNoFault raw = Clean (spec_tests raw)

-- the first fault that is found has this place and kind
abbrev pub HasFirstFault : RawSpec → ℕ → SortKind → Type 0
HasFirstFault raw at kind = First (spec_tests raw) (Sort at kind)

-- a term without variables over a signature
abbrev pub ground_tests : Sig → RawTree → Search SortFault
ground_tests sig raw = term_tests sig Ground [] WrongSort raw None

abbrev pub TermHasNoFault : Sig → RawTree → Type 0
TermHasNoFault sig raw = Clean (ground_tests sig raw)

abbrev pub TermHasFirstFault : Sig → RawTree → ℕ → SortKind → Type 0
TermHasFirstFault sig raw at kind = First (ground_tests sig raw) (Sort at kind)
