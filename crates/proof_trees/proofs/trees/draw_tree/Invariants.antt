use Rattle.std.proofs.Common.{◌≡◌, length}
use Rattle.std.specs.List.{AllByRecursion}
use Rattle.page_core.specs.Pages.{after}
use Rattle.proof_trees.specs.Blocks.{block_of}
use Rattle.proof_trees.specs.Nodes.{block_events, outline}
use Rattle.proof_trees.specs.Pendings.{IsPending, lefts, work}
use Rattle.proof_trees.proofs.trees.draw_tree.Given as goal

-- what is left makes the page what it will be
abbrev pub invariant-loop-next : goal.invariant-loop-next
invariant-loop-next l =
    (after l.page (lefts (outline (block_of l.block)) (length l.block.nodes.now) l.pending.items)
    ≡ after l.fn.page (block_events (block_of l.block)))
    × AllByRecursion (IsPending (outline (block_of l.block)) (length l.block.nodes.now)) l.pending.items

abbrev pub decreases-loop-next : goal.decreases-loop-next
decreases-loop-next l = work (outline (block_of l.block)) (length l.block.nodes.now) l.pending.items
