use Rattle.normalization.specs.Narrow.{IsNarrow}
use Rattle.plain_proof.proofs.Walking.{GoesOn}
use Rattle.plain_proof.proofs.staying.normal_side.Given as goal

abbrev pub invariant-loop-uses : goal.invariant-loop-uses
invariant-loop-uses l =
    GoesOn l.spec l.other l.fn.term l.last l.budget l.uses × IsNarrow l.last
