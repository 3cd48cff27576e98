use Rattle.std.proofs.Common.{◌≤◌}
use Rattle.proof_search.proofs.limits.symbols_in.Given as goal

abbrev pub invariant-loop-equation : goal.invariant-loop-equation
invariant-loop-equation l = l.size ≤ 4000
