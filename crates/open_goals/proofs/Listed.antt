-- The goal that is read, as one of the specification's.
use Rattle.std.proofs.Common.{◌≡◌, ◌<◌, List, ℕ, Some, refl, subst, length, get_or}
use Rattle.std.specs.Prelude.{slice_get}
use Rattle.std.proofs.lemmas.Option.{slice_get_read}
use Rattle.spec_core.specs.declared.records.Goal.{Goal}

pub listed :
    (goals items : List Goal) (i : ℕ) (one : Goal) → items ≡ goals → i < length items →
    one ≡ get_or items i one → slice_get goals i ≡ Some one
listed goals items i one same h is =
    subst (λ gs. slice_get gs i ≡ Some one) same (slice_get_read items _ i one refl h is)
