use Rattle.std.proofs.Common.{◌≡◌, drop}
use Rattle.bank_core.specs.Hashing.{stirred_all}
use Rattle.bank_core.proofs.table.hash_entry.Given as goal

abbrev pub invariant-loop-arg : goal.invariant-loop-arg
invariant-loop-arg g l =
    stirred_all g.A.Part.stirred l.hash (drop l.arg-index l.args) ≡
    stirred_all g.A.Part.stirred (g.H.Part.stirred 0 l.fn.head) l.args
