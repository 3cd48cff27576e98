use Rattle.script_trim.proofs.HopefulNodes.{TellHopeless}
use Rattle.script_trim.proofs.kept_blocks.hopeful_nodes.Given as goal

abbrev pub invariant-loop-node : goal.invariant-loop-node
invariant-loop-node g l =
    TellHopeless (g.O.TermOrder.above l.admitted.order) l.admitted.spec l.lemmas.numbers.items l.taken.nodes.items
    l.taken.links.items l.node l.before l.flags.items
