use Rattle.std.proofs.Common.{◌≡◌}
use Rattle.acceptance.specs.Strict.{first_child}
use Rattle.script_trim.proofs.given_cuts.nodes_before.Given as goal

abbrev pub invariant-loop-number : goal.invariant-loop-number
invariant-loop-number l = l.before ≡ first_child l.links l.number
