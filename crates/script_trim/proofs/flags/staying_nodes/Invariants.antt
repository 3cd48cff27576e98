use Rattle.script_trim.proofs.StayingFlags.{TellFirst}
use Rattle.script_trim.proofs.flags.staying_nodes.Given as goal

abbrev pub invariant-loop-number : goal.invariant-loop-number
invariant-loop-number l = TellFirst l.links l.node l.number l.stays.items
