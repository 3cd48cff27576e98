use Rattle.clause_places.proofs.AskedVariables.{asked_variable}
use Rattle.clause_places.proofs.laws.asked_is_variable.Goals as goal

pub returns : goal.returns
returns c = asked_variable
