use Rattle.spec_admit.proofs.WholeGroups.{first_of_group}
use Rattle.spec_admit.proofs.laws.guards_name_the_first_of_a_group.Goals as goal

pub returns : goal.returns
returns g c = λ spec number t. first_of_group spec number t.3
