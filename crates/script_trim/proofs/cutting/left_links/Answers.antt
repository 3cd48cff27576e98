use Rattle.std.proofs.Common.{◌≡◌, sym, subst, arith, length}
use Rattle.script_trim.specs.Flags.{AreNewNumbers}
use Rattle.script_trim.proofs.LinkedCuts.{refers_within}
use Rattle.script_trim.proofs.cutting.left_links.Goals as goal

pub new_numbers-requires : goal.new_numbers-requires
new_numbers-requires c = omega (arith, c.requires.long, c.requires.whole.few)

pub cut_links-requires : goal.cut_links-requires
cut_links-requires c = record {
  long = c.requires.long;
  numbers = subst (λ ns. AreNewNumbers c.args.stays.now ns) (sym c.as_slice.ensures.value) c.in_ok-numbers.ensures;
  refs = refers_within c.args.links.now c.requires.whole;
  closed = c.requires.closed;
}
