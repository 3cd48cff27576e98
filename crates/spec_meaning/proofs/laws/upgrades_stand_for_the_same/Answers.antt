use Rattle.spec_meaning.proofs.Upgrading.{upgraded_stands}
use Rattle.spec_meaning.proofs.laws.upgrades_stand_for_the_same.Goals as goal

pub returns : goal.returns
returns c = upgraded_stands
