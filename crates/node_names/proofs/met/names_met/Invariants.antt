use Rattle.node_names.proofs.Meeting.{HasMet}
use Rattle.node_names.proofs.met.names_met.Given as goal

abbrev pub invariant-loop-var : goal.invariant-loop-var
invariant-loop-var l = HasMet l.names l.seen.items l.met.items
