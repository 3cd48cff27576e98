use Rattle.std.proofs.Common.{◌≡◌, Some, inl, inr, subst}
use Rattle.std.specs.Prelude.{slice_get}
use Rattle.refuter.proofs.Sizing.{not_behind, written}
use Rattle.refuter.proofs.sized_bank.note.Goals as goal

pub loop-sizes-preserved : goal.loop-sizes-preserved
loop-sizes-preserved c k n at lt = c.loop-sizes.invariant k n
    (not_behind c.loop-sizes.sizes.items k n (subst (λ xs. slice_get xs k ≡ Some n) c.in_ok-push.ensures.items
    at) lt) lt

pub returns-in_err-push : goal.returns-in_err-push
returns-in_err-push c k n at lt = inr
    (c.loop-sizes.invariant k n (subst (λ xs. slice_get xs k ≡ Some n) c.in_err-push.ensures.items at) lt)

pub returns : goal.returns
returns c k n at lt = elim (written c.loop-sizes.sizes.items c.args.place c.args.size k n at) [
  | inl w ↦ inl w
  | inr w ↦ inr (c.loop-sizes.invariant k n w lt)
]
