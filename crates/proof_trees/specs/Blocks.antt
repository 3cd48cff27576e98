-- What contracts see of a block with names, and that it is whole.
use Rattle.std.specs.Prelude.{◌≡◌, ◌+◌, ◌<◌, ◌≤◌, ℕ, Some, length, slice_get}
use Rattle.clause_core.specs.declared.answers.Children.{Children}
use Rattle.acceptance.specs.Strict.{first_child}
use Rattle.inference_rules.specs.Answers.{clauses_of}
use Rattle.proof_trees.specs.declared.blocks.NamedBlock.{NamedBlock}
use Rattle.proof_trees.specs.Nodes.{ShownBlock}

abbrev pub block_of : NamedBlock → ShownBlock
block_of b = record {
  spec = b.spec.now;
  goal = b.goal;
  clauses = clauses_of b.nodes.now;
  steps = b.steps.now;
  made = b.links.now;
  names = b.names.now;
}

-- the numbers of first children are right, each node comes before its children, and these are among
-- the nodes, of which there are few
pub record IsWhole (b : NamedBlock) : Type 0 where
  pub few : length b.nodes.now ≤ 10000
  pub firsts :
      (k : ℕ) (link : Children) → slice_get b.links.now k ≡ Some link →
      slice_get b.firsts.now k ≡ Some (first_child b.links.now k)
  pub later :
      (k : ℕ) (link : Children) → slice_get b.links.now k ≡ Some link →
      k < first_child b.links.now k
  pub inside :
      (k : ℕ) (link : Children) → slice_get b.links.now k ≡ Some link →
      first_child b.links.now k + length link.clauses ≤ length b.nodes.now
