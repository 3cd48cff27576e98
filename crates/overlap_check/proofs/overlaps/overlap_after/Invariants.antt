use Rattle.overlap_check.specs.Searches.{NoneOverlapsAfter}
use Rattle.overlap_check.proofs.overlaps.overlap_after.Given as goal

abbrev pub invariant-loop-other : goal.invariant-loop-other
invariant-loop-other l = NoneOverlapsAfter l.spec l.place l.other
