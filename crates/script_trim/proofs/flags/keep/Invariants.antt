use Rattle.std.proofs.Common.{◌≡◌, map}
use Rattle.script_trim.proofs.StayingItems.{kept_of, read_pair}
use Rattle.script_trim.proofs.flags.keep.Given as goal

abbrev pub invariant-loop-item : goal.invariant-loop-item
invariant-loop-item g l = l.kept.items ≡ kept_of (map read_pair l.yielded)
