use Rattle.std.proofs.Common.{◌≡◌, min, take}
use Rattle.refuter.specs.Fewest.{total, number_in}
use Rattle.refuter.proofs.fewest.total_size.Given as goal

abbrev pub invariant-loop-sort : goal.invariant-loop-sort
invariant-loop-sort l = l.size ≡ min (total (number_in l.row) (take l.sort-index l.sorts)) 4096
