use Rattle.rule_code.proofs.Bodies.{code_right}
use Rattle.rule_code.proofs.laws.code_is_right.Goals as goal

pub returns : goal.returns
returns c = code_right
