use Rattle.std.proofs.Common.{ℕ, ◌<◌}
use Rattle.unifier.specs.Graph.{IsNodeOf}
use Rattle.unifier.proofs.unification.graph.node_of.Given as goal

abbrev pub invariant-loop-node : goal.invariant-loop-node
invariant-loop-node l = (i : ℕ) → i < l.node → IsNodeOf l.graph l.var.0 i → ⊥
