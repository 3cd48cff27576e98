use Rattle.std.proofs.Common.{◌≡◌, take}
use Rattle.sort_check.specs.Signatures.{sort_names}
use Rattle.sort_check.proofs.declarations.names_of_sorts.Given as goal

abbrev pub invariant-loop-sort : goal.invariant-loop-sort
invariant-loop-sort l = l.names ≡ sort_names (take l.sort-index l.sorts)
