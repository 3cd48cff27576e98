use Rattle.std.proofs.Common.{◌≡◌, take}
use Rattle.spec_core.specs.WellSorted.{sorts_of}
use Rattle.growing_specs.proofs.sorting.sorts.Given as goal

abbrev pub invariant-loop-var : goal.invariant-loop-var
invariant-loop-var l = l.found.items ≡ sorts_of (take l.var-index l.vars)
