use Rattle.std.proofs.Common.{◌≡◌, ◌<◌, Some, length}
use Rattle.std.specs.Prelude.{slice_get}
use Rattle.routine_proof.specs.Ways.{Node}
use Rattle.proof_search.specs.Building.{nodes_in}
use Rattle.proof_search.proofs.Climbing.{Climbs}
use Rattle.proof_search.proofs.building.Building.ancestors.Given as goal

abbrev pub invariant-loop-here : goal.invariant-loop-here
invariant-loop-here l =
    (l.here < length l.self.block.nodes.items)
    × ((from : Node) → slice_get (nodes_in l.self) l.node ≡ Some from →
    Climbs l.self from l.here l.found.items)

abbrev pub decreases-loop-here : goal.decreases-loop-here
decreases-loop-here l = l.here
