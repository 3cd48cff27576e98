use Rattle.std.proofs.Common.{◌-◌, length}
use Rattle.proof_search.specs.FallingSides.{AreFalling}
use Rattle.proof_search.specs.Starting.{start_of}
use Rattle.proof_search.proofs.BuiltBlocks.{IsPart}
use Rattle.proof_search.proofs.bounding.bounded_block.Given as goal

abbrev pub invariant-loop-alloc : goal.invariant-loop-alloc
invariant-loop-alloc g l = record {
  part : IsPart (g.O.TermOrder.above l.order) l.setting.spec.now l.setting.lemmas.now
      (start_of l.start) l.fn.clause l.limits.nodes l.building;
  sides : AreFalling (g.O.TermOrder.above l.order) l.fn.clause l.building.sides;
}

abbrev pub decreases-loop-alloc : goal.decreases-loop-alloc
decreases-loop-alloc g l = l.limits.nodes - length l.building.steps.items
