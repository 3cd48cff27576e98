use Rattle.rule_code.proofs.Matches.{tests_decide}
use Rattle.rule_code.proofs.laws.tests_decide.Goals as goal

pub returns : goal.returns
returns c = tests_decide
