-- A test of equality that computes.
use Rattle.std.specs.Prelude.{Bool, true, false, ◌&&◌, ◌==◌}
use Rattle.term_core.specs.Tree.{Tree, Trees, var, app, none, some}

-- the test whether two terms are the same tree
abbrev mutual
  pub same_tree : Tree → Tree → Bool
  same_tree (var m) (var n) = m == n
  same_tree (app f ts) (app g us) = (f == g) && same_trees ts us
  same_tree (var m) (app g us) = false
  same_tree (app f ts) (var n) = false

  pub same_trees : Trees → Trees → Bool
  same_trees none none = true
  same_trees (some t ts) (some u us) = same_tree t u && same_trees ts us
  same_trees none (some u us) = false
  same_trees (some t ts) none = false
