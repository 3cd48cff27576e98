use Rattle.spec_meaning.proofs.SameSpecs.{same_stands}
use Rattle.spec_meaning.proofs.laws.places_mean_nothing.Goals as goal

pub returns : goal.returns
returns c = same_stands
