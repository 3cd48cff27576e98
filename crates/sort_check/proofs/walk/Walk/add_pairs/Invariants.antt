use Rattle.std.proofs.Common.{◌≡◌, ◌++◌, take}
use Rattle.sort_check.specs.GoalTests.{pairs_in}
use Rattle.sort_check.proofs.walk.Walk.add_pairs.Given as goal

abbrev pub invariant-loop-raw : goal.invariant-loop-raw
invariant-loop-raw l = l.pairs.items ≡ l.fn.pairs.items ++ pairs_in l.self.sig.now l.entries (take l.raw-index l.raws)
