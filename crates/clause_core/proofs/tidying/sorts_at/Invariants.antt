use Rattle.std.proofs.Common.{◌≡◌, take}
use Rattle.clause_core.specs.Tidied.{sorts_at}
use Rattle.clause_core.proofs.tidying.sorts_at.Given as goal

abbrev pub invariant-loop-place : goal.invariant-loop-place
invariant-loop-place l = l.sorts.items ≡ sorts_at l.ctx (take l.place-index l.places)
