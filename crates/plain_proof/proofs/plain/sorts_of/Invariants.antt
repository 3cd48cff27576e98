use Rattle.std.proofs.Common.{◌≡◌, take}
use Rattle.spec_core.specs.WellSorted.{sorts_of}
use Rattle.plain_proof.proofs.plain.sorts_of.Given as goal

abbrev pub invariant-loop-var : goal.invariant-loop-var
invariant-loop-var l = l.sorts.items ≡ sorts_of (take l.var-index l.vars)
