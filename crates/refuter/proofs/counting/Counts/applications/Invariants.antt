use Rattle.refuter.proofs.Counted.{IsCountedTo}
use Rattle.refuter.proofs.counting.Counts.applications.Given as goal

abbrev pub invariant-loop-number : goal.invariant-loop-number
invariant-loop-number l = IsCountedTo l.self.sig l.self.depth l.self.cap l.number l.sort l.numbers.items
