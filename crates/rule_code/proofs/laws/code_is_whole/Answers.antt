use Rattle.rule_code.proofs.Bodies.{code_whole}
use Rattle.rule_code.proofs.laws.code_is_whole.Goals as goal

pub returns : goal.returns
returns c = code_whole
