use Rattle.open_evaluation.proofs.Instancing.{gives_closed}
use Rattle.open_evaluation.proofs.OpenValues.{opens}
use Rattle.open_evaluation.proofs.laws.closed_terms_give_the_same.Goals as goal

pub returns : goal.returns
returns c spec t v n fine closed = (gives_closed spec fine t v n closed, opens spec)
