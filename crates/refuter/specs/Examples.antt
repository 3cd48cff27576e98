-- How many values a few sorts have.
use Rattle.std.specs.Prelude.{◌≡◌, min, length}
use Rattle.spec_core.specs.Order.{values}
use Rattle.spec_core.specs.Naturals.{nat, naturals_sig, endless_sig}
use Rattle.spec_core.specs.Shapes.{shape, tree_sig}
use Rattle.refuter.specs.Counts.{values_of_size}

pub record WorkedExamples : Type 0 where
  -- seven naturals have a depth of at most 7, and there is no value if succ is the one constructor
  pub naturals : min (length (values naturals_sig 7 nat)) 100 ≡ 7
  pub endless : min (length (values endless_sig 7 nat)) 100 ≡ 0
  -- five trees of node(Tree, Tree) | leaf have a depth of at most 3, four if 4 is the cap, and
  -- none has depth 0
  pub trees : min (length (values tree_sig 3 shape)) 100 ≡ 5
  pub capped_trees : min (length (values tree_sig 3 shape)) 4 ≡ 4
  pub no_trees : min (length (values tree_sig 0 shape)) 100 ≡ 0
  -- two of the five have 5 symbols, node(node(leaf, leaf), leaf) and node(leaf, node(leaf, leaf)),
  -- and none has 4
  pub trees_of_five : values_of_size tree_sig 3 shape 5 ≡ 2
  pub trees_of_four : values_of_size tree_sig 3 shape 4 ≡ 0
