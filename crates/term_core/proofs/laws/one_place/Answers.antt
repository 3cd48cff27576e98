use Rattle.term_core.proofs.Paths.{one_subterm, one_replacement}
use Rattle.term_core.proofs.laws.one_place.Goals as goal

pub returns : goal.returns
returns c path t new a b = (one_subterm path t a b, one_replacement path t new a b)
