use Rattle.std.proofs.Common.{length, ◌-◌, ◌≤◌, take}
use Rattle.io_core.specs.Count.{IsCount}
use Rattle.io_core.specs.Piece.{Appended}
use Rattle.io_core.proofs.traits.write_all.Given as goal

abbrev pub invariant-loop-at : goal.invariant-loop-at
invariant-loop-at g l =
    record {
      within : l.at ≤ length l.piece;
      done : Appended (g.S.Sink.written l.fn.out) (g.S.Sink.written l.out) (take l.at l.piece);
      counts : g.S.Sink.faults l.fn.out ≤ g.S.Sink.faults l.out;
      bound : IsCount (g.S.Sink.faults l.fn.out) → IsCount (g.S.Sink.faults l.out);
    }

abbrev pub decreases-loop-at : goal.decreases-loop-at
decreases-loop-at g l = length l.piece - l.at
