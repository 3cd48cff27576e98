use Rattle.std.specs.Prelude.{slice_index}
use Rattle.refuter.proofs.Convolved.{IsConvolvedTo}
use Rattle.refuter.proofs.counting.convolve.Given as goal

abbrev pub invariant-loop-place : goal.invariant-loop-place
invariant-loop-place l = IsConvolvedTo l.cap (slice_index l.first) (slice_index l.rest) l.place l.numbers.items
