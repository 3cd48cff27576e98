use Rattle.std.proofs.Common.{rules}
use Rattle.sort_check.proofs.SortedVariables.{rule_answers}
use Rattle.sort_check.proofs.variables.variables_of_rule.Goals as goal

pub returns : goal.returns
returns c = rule_answers c.args.entries.now c.deref.result.now c.sorted_variables.result c.requires
    (search rules) c.sorted_variables.ensures
