use Rattle.std.proofs.Common.{refl}
use Rattle.bank_core.specs.Links.{place_of}
use Rattle.bank_core.proofs.links.bucket.Goals as goal

pub returns-clause-is : goal.returns-clause-is
unfolding place_of
returns-clause-is c = refl
