use Rattle.normalization.proofs.OneRun.{one_normal}
use Rattle.normalization.proofs.laws.one_normal_form.Goals as goal

pub returns : goal.returns
returns c spec t u v ws xs fine = one_normal spec fine t u v ws xs
