use Rattle.std.proofs.Common.{◌≡◌, map, take}
use Rattle.inference_rules.specs.Answers.{clauses_of}
use Rattle.script_trim.specs.Keys.{key_of}
use Rattle.script_trim.proofs.kept_blocks.keys_of.Given as goal

abbrev pub invariant-loop-node : goal.invariant-loop-node
invariant-loop-node l = l.keys.items ≡ map key_of (clauses_of (take l.node-index l.nodes))
