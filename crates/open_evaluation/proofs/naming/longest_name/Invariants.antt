use Rattle.std.proofs.Common.{◌<◌, ◌^◌, take}
use Rattle.spec_core.specs.Sig.{names_of}
use Rattle.open_evaluation.specs.Marks.{AreWithin}
use Rattle.open_evaluation.proofs.naming.longest_name.Given as goal

abbrev pub invariant-loop-number : goal.invariant-loop-number
invariant-loop-number l = record {
  within : AreWithin l.longest (take l.number (names_of l.sig));
  small : l.longest < 2 ^ 63;
}
