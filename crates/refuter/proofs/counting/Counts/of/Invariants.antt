use Rattle.std.proofs.Common.{◌≡◌, min}
use Rattle.std.specs.Prelude.{slice_index}
use Rattle.refuter.specs.Sequences.{sum_below}
use Rattle.refuter.proofs.counting.Counts.of.Given as goal

abbrev pub invariant-loop-symbols : goal.invariant-loop-symbols
invariant-loop-symbols l = l.total ≡ min (sum_below l.symbols (slice_index l.numbers)) l.self.cap
