use Rattle.std.proofs.Common.{ℕ, ◌<◌}
use Rattle.acceptance.specs.Strict.{NodeIsAllowed}
use Rattle.acceptance.proofs.allowing.allowed.Given as goal

abbrev pub invariant-loop-node : goal.invariant-loop-node
invariant-loop-node l = (j : ℕ) → j < l.node → NodeIsAllowed l.made j
