use Rattle.std.proofs.Common.{refl}
use Rattle.std.specs.Fmt.{digits}
use Rattle.spec_printing.proofs.laws.printed_examples.Goals as goal

pub returns : goal.returns
unfolding digits
returns c = record {
  header = refl;
  lines = refl;
  orders = refl;
  weights = refl;
  no_weights = refl;
  in_format_two = refl;
  whole = refl;
  without_conclusions = refl;
  without_premises = refl;
}
