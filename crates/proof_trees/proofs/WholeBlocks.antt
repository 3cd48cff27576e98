-- A whole block has an outline in which each node comes before its children.
use Rattle.std.proofs.Common.{◌≡◌, ◌<◌, ℕ, ◌++◌, Option, Some, None, refl, ap, arith, length}
use Rattle.std.specs.Prelude.{slice_get}
use Rattle.clause_core.specs.declared.answers.Children.{Children}
use Rattle.acceptance.specs.Strict.{first_child}
use Rattle.proof_trees.specs.declared.blocks.NamedBlock.{NamedBlock}
use Rattle.proof_trees.specs.Blocks.{IsWhole, block_of}
use Rattle.proof_trees.specs.Nodes.{child_count, heading_events, node_events, outline}
use Rattle.proof_trees.specs.Pendings.{whole}
use Rattle.proof_trees.specs.Trees.{below}
use Rattle.proof_trees.proofs.Drawing.{whole_is}

module _ (b : NamedBlock) (w : IsWhole b) where
  falls : (k : ℕ) → 0 < child_count (slice_get b.links.now k) → k < first_child b.links.now k
  falls k some = either (slice_get b.links.now k) refl
    where
      either : (found : Option Children) → slice_get b.links.now k ≡ found → k < first_child b.links.now k
      either None e = absurd (omega (arith, some, ap child_count e))
      either (Some m) e = w.later k m e

  among : (k : ℕ) → 0 < child_count (slice_get b.links.now k) → k < length b.nodes.now
  among k some = either (slice_get b.links.now k) refl
    where
      either : (found : Option Children) → slice_get b.links.now k ≡ found → k < length b.nodes.now
      either None e = absurd (omega (arith, some, ap child_count e))
      either (Some m) e = omega (arith, w.later k m e, w.inside k m e)

  -- what is drawn of a node, and then of what comes after it
  pub node_is :
      (k : ℕ) →
      whole (outline (block_of b)) (length b.nodes.now) k
      ≡ node_events (block_of b) k
      ++ below (outline (block_of b)) (whole (outline (block_of b)) (length b.nodes.now)) k
      ((outline (block_of b)).has_cases k) ((outline (block_of b)).count k)
  node_is k = whole_is (outline (block_of b)) (length b.nodes.now) falls among k

-- something is drawn of each node, and over each case
pub node_some : (b : NamedBlock) (k : ℕ) → 0 < length (node_events (block_of b) k)
node_some b k = omega arith

pub heading_some : (b : NamedBlock) (k i : ℕ) → 0 < length (heading_events (block_of b) k i)
heading_some b k i = omega arith
