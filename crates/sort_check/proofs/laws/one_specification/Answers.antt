use Rattle.sort_check.proofs.OneSpec.{one_numbering, one_spec}
use Rattle.sort_check.proofs.laws.one_specification.Goals as goal

pub returns : goal.returns
returns c = record { numbering = one_numbering; one = one_spec }
