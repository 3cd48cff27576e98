use Rattle.coverage_check.proofs.Admitted.{row_admits}
use Rattle.coverage_check.proofs.laws.admits_instances.Goals as goal

pub returns : goal.returns
returns c sig sorts row vs is = row_admits row vs is.linear
