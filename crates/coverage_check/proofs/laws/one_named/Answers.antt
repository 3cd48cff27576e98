use Rattle.coverage_check.proofs.Namings.{named_missing, one}
use Rattle.coverage_check.proofs.laws.one_named.Goals as goal

pub returns : goal.returns
returns c sig rows sorts vs ws p q = (named_missing sig p, one sig p q)
