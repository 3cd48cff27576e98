use Rattle.std.proofs.Common.{◌≡◌, map}
use Rattle.std.specs.List.{range_with_len}
use Rattle.acceptance.specs.Strict.{first_child}
use Rattle.proof_trees.proofs.proofs.first_children.Given as goal

abbrev pub invariant-loop-link : goal.invariant-loop-link
invariant-loop-link l =
    (l.firsts.items ≡ map (first_child l.links) (range_with_len 0 l.link-index))
    × (l.next ≡ first_child l.links l.link-index)
