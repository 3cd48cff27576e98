use Rattle.script_trim.proofs.SharedKeys.{Told}
use Rattle.script_trim.proofs.lone_nodes.shared_keys.Given as goal

abbrev pub invariant-loop-key : goal.invariant-loop-key
invariant-loop-key l = Told l.keys l.key-index l.seen l.shared
