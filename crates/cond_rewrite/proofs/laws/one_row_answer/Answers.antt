use Rattle.cond_rewrite.proofs.OneRowAnswer.{one_row_answer}
use Rattle.cond_rewrite.proofs.laws.one_row_answer.Goals as goal

pub returns : goal.returns
returns c = one_row_answer
