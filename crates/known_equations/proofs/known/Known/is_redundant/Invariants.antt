use Rattle.std.proofs.Common.{◌≡◌}
use Rattle.known_equations.proofs.known.Known.is_redundant.Given as goal

abbrev pub invariant-loop-equation : goal.invariant-loop-equation
invariant-loop-equation g l = l.self ≡ l.fn.self
