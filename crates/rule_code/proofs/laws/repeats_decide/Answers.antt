use Rattle.rule_code.proofs.Matches.{repeats_decide}
use Rattle.rule_code.proofs.laws.repeats_decide.Goals as goal

pub returns : goal.returns
returns c = repeats_decide
