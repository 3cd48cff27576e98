use Rattle.command_line.proofs.Examples.{asking, refused}
use Rattle.command_line.proofs.laws.worked_examples.Goals as goal

pub returns : goal.returns
returns c = record { asking = asking; refused = refused }
