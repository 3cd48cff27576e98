use Rattle.std.proofs.Common.{◌≡◌, take}
use Rattle.proof_search.proofs.AddedNodes.{AddsChildren}
use Rattle.proof_search.proofs.building.Building.take.Given as goal

abbrev pub invariant-loop-child : goal.invariant-loop-child
invariant-loop-child l =
    AddsChildren l.initial.self l.self l.parent (take l.child-index l.fn.taken.made.clauses)
    × (l.step ≡ l.fn.taken.step)
