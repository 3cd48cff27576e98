use Rattle.std.proofs.Common.{◌≡◌, Some, sym, subst}
use Rattle.std.specs.Prelude.{slice_get}
use Rattle.spec_core.specs.WellSorted.{sorts_of}
use Rattle.normalization.proofs.Fine.{sorted_narrow}
use Rattle.bench_rewrite.proofs.normalized.Goals as goal

pub normalize-requires-clause-narrow : goal.normalize-requires-clause-narrow
normalize-requires-clause-narrow c =
    let spec = c.args.spec.now in
    let g = c.in-Some.goal.now in
    let e = c.in-Some-first.conclusion.now in
    let at : slice_get spec.goals 0 ≡ Some g = subst (λ gs. slice_get gs 0 ≡ Some g) c.as_slice.ensures
    (sym c.in-Some.ensures.value) in
    let here : slice_get g.conclusions 0 ≡ Some e = subst (λ es. slice_get es 0 ≡ Some e) c.as_slice-2.ensures
    (sym c.in-Some-first.ensures.value) in
    let s = (c.requires.fine.goals 0 g at).conclusions 0 e here in
    sorted_narrow spec.sig (sorts_of g.vars) e.left s.0 c.requires.fine.arities s.1
