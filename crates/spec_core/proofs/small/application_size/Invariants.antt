use Rattle.std.proofs.Common.{◌≡◌, ◌+◌, min, take}
use Rattle.spec_core.specs.Sizes.{sum_of}
use Rattle.spec_core.proofs.small.application_size.Given as goal

abbrev pub invariant-loop-sort : goal.invariant-loop-sort
invariant-loop-sort l = l.size ≡ min (1 + sum_of l.least (take l.sort-index l.args)) 256
