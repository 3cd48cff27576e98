use Rattle.std.proofs.Common.{◌<◌, length}
use Rattle.proof_search.proofs.building.Building.covers_above.Given as goal

abbrev pub invariant-loop-here : goal.invariant-loop-here
invariant-loop-here l = l.here < length l.self.block.nodes.items

abbrev pub decreases-loop-here : goal.decreases-loop-here
decreases-loop-here l = l.here
