use Rattle.std.proofs.Common.{◌≡◌, ◌+◌, ◌∷◌, take}
use Rattle.std.specs.Prelude.{codes}
use Rattle.sort_check.specs.Signatures.{sort_names}
use Rattle.added_goals.proofs.signatures.has_sorts.Given as goal

abbrev pub invariant-loop-number : goal.invariant-loop-number
invariant-loop-number l =
    take (l.number + 1) l.sig.sorts ≡ take (l.number + 1) (codes "Bool" ∷ sort_names l.sorts)
