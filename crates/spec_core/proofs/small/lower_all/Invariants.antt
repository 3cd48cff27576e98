use Rattle.spec_core.specs.Sizes.{AreReached}
use Rattle.spec_core.proofs.Rounds.{Turns}
use Rattle.spec_core.proofs.small.lower_all.Given as goal

abbrev pub invariant-loop-number : goal.invariant-loop-number
invariant-loop-number l =
    record {
      reached : AreReached l.tables l.least;
      turns : Turns l.tables l.fn.least l.least l.number l.lowered;
    }
