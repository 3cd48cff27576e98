use Rattle.term_core.proofs.Paths.{replacement_at}
use Rattle.term_core.proofs.laws.replaced_is_there.Goals as goal

pub returns : goal.returns
returns c = replacement_at
