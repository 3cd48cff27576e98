use Rattle.std.proofs.Common.{◌≡◌, take}
use Rattle.spec_core.specs.WellSorted.{sorts_of}
use Rattle.clause_core.proofs.tidying.sorts_of.Given as goal

abbrev pub invariant-loop-var : goal.invariant-loop-var
invariant-loop-var l = l.sorts.items ≡ sorts_of (take l.var-index l.vars)
