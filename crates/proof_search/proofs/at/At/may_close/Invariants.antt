use Rattle.std.proofs.Common.{◌≡◌, ℕ, ◌<◌, Some}
use Rattle.std.specs.Prelude.{slice_get}
use Rattle.proof_search.specs.declared.side_spines.SideSpines.{SideSpines}
use Rattle.proof_search.specs.Leading.{kept_spines}
use Rattle.proof_search.specs.SideSpines.{MayBecomeEither}
use Rattle.proof_search.proofs.at.At.may_close.Given as goal

abbrev pub invariant-loop-own : goal.invariant-loop-own
invariant-loop-own l =
    (k : ℕ) (own : SideSpines) → k < l.own-index → slice_get l.own-items k ≡ Some own →
    MayBecomeEither (kept_spines l.place) own → ⊥
