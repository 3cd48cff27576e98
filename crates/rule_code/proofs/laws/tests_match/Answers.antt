use Rattle.rule_code.proofs.Matches.{tests_match}
use Rattle.rule_code.proofs.laws.tests_match.Goals as goal

pub returns : goal.returns
returns c = tests_match
