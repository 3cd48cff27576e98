use Rattle.open_evaluation.proofs.Instancing.{gives_under}
use Rattle.open_evaluation.proofs.laws.instances_give.Goals as goal

pub returns : goal.returns
returns c spec xs t v n fine values below gives = gives_under spec fine xs values gives below
