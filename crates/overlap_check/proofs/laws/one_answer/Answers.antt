use Rattle.overlap_check.proofs.OneAnswer.{one_linearity, one_overlap}
use Rattle.overlap_check.proofs.laws.one_answer.Goals as goal

pub returns : goal.returns
returns c = record { linear = one_linearity; overlap = one_overlap }
