use Rattle.node_names.proofs.Walked.{IsWalked}
use Rattle.node_names.proofs.nodes.node_names.Given as goal

abbrev pub invariant-loop-place : goal.invariant-loop-place
invariant-loop-place l = IsWalked l.spec l.goal l.taken.nodes.items l.others l.place l.made.items
