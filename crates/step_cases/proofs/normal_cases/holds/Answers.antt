use Rattle.std.proofs.Common.{◌≡◌, Some, length, get_or, refl, sym, subst}
use Rattle.std.specs.Prelude.{slice_get}
use Rattle.std.proofs.lemmas.Option.{slice_get_read}
use Rattle.spec_core.specs.WellSorted.{sorts_of}
use Rattle.normalization.proofs.Fine.{sorted_narrow}
use Rattle.step_cases.proofs.normal_cases.holds.Goals as goal

pub normalize-requires-clause-narrow : goal.normalize-requires-clause-narrow
normalize-requires-clause-narrow c =
    let spec = c.args.spec.now in
    let g = c.index-as_slice-number_of_goal.result in
    let n = c.in_ok-number_of_goal.number_of_goal in
    let e = c.in-Some.conclusion.now in
    let at : slice_get spec.goals n ≡ Some g = slice_get_read spec.goals (length spec.goals) n g refl
    c.in_ok-number_of_goal.ensures
    (subst (λ gs. g ≡ get_or gs n g) c.as_slice.ensures c.index-as_slice-number_of_goal.is) in
    let here : slice_get g.conclusions 0 ≡ Some e = subst (λ es. slice_get es 0 ≡ Some e) c.as_slice-2.ensures
    (sym c.in-Some.ensures.value) in
    let s = (c.requires.fine.goals n g at).conclusions 0 e here in
    sorted_narrow spec.sig (sorts_of g.vars) e.left s.0 c.requires.fine.arities s.1
