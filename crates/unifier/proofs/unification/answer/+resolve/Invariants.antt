use Rattle.std.proofs.Common.{◌≡◌, take}
use Rattle.term_core.specs.Tree.{trees_of}
use Rattle.term_core.specs.Measure.{weight, weights}
use Rattle.unifier.specs.Answer.{resolved, resolved_all}
use Rattle.unifier.proofs.unification.answer.+resolve.Given as goal

abbrev pub decreases-resolve : goal.decreases-resolve
decreases-resolve l = weight (resolved l.graph.now l.roots.now l.node)

abbrev pub decreases-resolve_all : goal.decreases-resolve_all
decreases-resolve_all l = weights (resolved_all l.graph.now l.roots.now l.nodes.now)

abbrev pub invariant-resolve_all-loop-node : goal.invariant-resolve_all-loop-node
invariant-resolve_all-loop-node l = trees_of l.made ≡ resolved_all l.graph l.roots (take l.node-index l.nodes)
