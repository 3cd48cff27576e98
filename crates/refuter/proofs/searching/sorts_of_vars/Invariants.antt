use Rattle.std.proofs.Common.{◌≡◌, take}
use Rattle.spec_core.specs.WellSorted.{sorts_of}
use Rattle.refuter.proofs.searching.sorts_of_vars.Given as goal

abbrev pub invariant-loop-var : goal.invariant-loop-var
invariant-loop-var l = l.sorts ≡ sorts_of (take l.var-index l.vars)
