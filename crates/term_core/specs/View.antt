-- The tree that a node stands for.
use Rattle.term_core.specs.Tree.{Tree, var, app, trees_of}
use Rattle.term_core.specs.declared.tree.TermNode.{TermNode}
use Rattle.term_core.specs.declared.tree.TermNode.TheVariants.{Var, App}

abbrev pub tree_of : TermNode → Tree
tree_of (Var v) = var v.0
tree_of (App f ts) = app f.0 (trees_of ts)
