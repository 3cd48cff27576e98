use Rattle.clause_core.proofs.NaturalSteps.{by_first_rule, by_second_rule, below_a_variable, by_third_rule, by_no_rule}
use Rattle.clause_core.proofs.NaturalSteps.{no_constructor, by_itself, by_no_node, by_no_lemma}
use Rattle.clause_core.proofs.InsertionSteps.{by_cases, by_one_case, by_guarded_rule, by_zero, by_zero_or_succ}
use Rattle.clause_core.proofs.InsertionSteps.{no_premise}
use Rattle.clause_core.proofs.step_laws.table_examples.Goals as goal

pub returns : goal.returns
returns c = record {
  by_first_rule = by_first_rule;
  by_second_rule = by_second_rule;
  below_a_variable = below_a_variable;
  by_third_rule = by_third_rule;
  by_no_rule = by_no_rule;
  no_constructor = no_constructor;
  by_itself = by_itself;
  by_no_node = by_no_node;
  by_no_lemma = by_no_lemma;
  by_cases = by_cases;
  by_one_case = by_one_case;
  by_guarded_rule = by_guarded_rule;
  by_zero = by_zero;
  by_zero_or_succ = by_zero_or_succ;
  no_premise = no_premise;
}
