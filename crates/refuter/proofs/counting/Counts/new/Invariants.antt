use Rattle.std.proofs.Common.{◌≡◌}
use Rattle.refuter.specs.Counts.{counted}
use Rattle.refuter.proofs.counting.Counts.new.Given as goal

abbrev pub invariant-loop-round : goal.invariant-loop-round
invariant-loop-round l = l.counts ≡ counted l.sig l._round l.cap
