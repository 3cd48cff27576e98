use Rattle.std.proofs.Common.{◌-◌, length}
use Rattle.inference_rules.specs.Answers.{clauses_of}
use Rattle.plain_search.proofs.BuiltBlocks.{IsBuilt}
use Rattle.plain_search.proofs.making.block_on.Given as goal

abbrev pub invariant-loop-alloc : goal.invariant-loop-alloc
invariant-loop-alloc g l =
    IsBuilt (g.O.TermOrder.above l.order) l.spec l.fn.goal l.fn.var.0 l.steps.items (clauses_of l.block.nodes.items)

abbrev pub decreases-loop-alloc : goal.decreases-loop-alloc
decreases-loop-alloc g l = 1001 - length l.steps.items
