use Rattle.std.proofs.Common.{refl}
use Rattle.std.specs.Fmt.{digits}
use Rattle.load_text.proofs.laws.worked_examples.Goals as goal

pub returns : goal.returns
unfolding digits
returns c = record { one = refl; four = refl; anew = refl }
