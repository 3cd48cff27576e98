-- The measure falls from a term to its list of arguments.
use Rattle.std.specs.Prelude.{◌≤◌, max}
use Rattle.std.proofs.Common.{arith}
use Rattle.term_core.specs.Measure.{weight, list_weight_is}
use Rattle.term_core.specs.View.{tree_of}
use Rattle.term_core.specs.declared.tree.TermNode.{TermNode}
use Rattle.term_core.specs.declared.tree.TermNode.TheVariants.{Var, App}
use Rattle.term_core.specs.declared.tree.Term.TheDeep.{deep-TermNode}

pub falls : (n : TermNode) → max (deep-TermNode n) 0 ≤ weight (tree_of n)
falls (Var v) = omega arith
falls (App f ts) = omega (arith, list_weight_is ts)
