use Rattle.std.proofs.Common.{◌≡◌, [], ◌∷◌, subst, ap, ◌∙◌, get_or}
use Rattle.std.specs.Prelude.{slice_get, Some}
use Rattle.std.proofs.lemmas.Option.{get_or_from_slice_get}
use Rattle.spec_core.specs.declared.records.Goal.{Goal}
use Rattle.clause_core.specs.declared.clauses.Clause.{Clause}
use Rattle.clause_core.specs.declared.steps.Step.{Step}
use Rattle.clause_core.specs.declared.steps.Step.TheVariants.{ByLemma}
use Rattle.script_trim.specs.Closing.{own_variables, by_whole_lemma}
use Rattle.script_trim.specs.Trying.{Adds}
use Rattle.script_trim.proofs.Passing.{less_goal}
use Rattle.script_trim.proofs.Whole.{on_ok_map}
use Rattle.script_trim.proofs.fitting.try_lemma.Goals as goal

pub returns-then-not-subsumes : goal.returns-then-not-subsumes
returns-then-not-subsumes g c = λ made at.
    less_goal (g.O.TermOrder.above c.args.order.now) c.args.spot.now c.requires.spot c.args.number made
    c.args.clause.now c.subsumes.result c.args.fits.now.items (c.requires.clause made at) c.subsumes.ensures
    c.if-not-subsumes.true at

pub returns : goal.returns
returns g c =
    let above = g.O.TermOrder.above c.args.order.now in
    let spot = c.args.spot.now in
    let number = c.args.number in
    let item = c.index-as_slice-number.result in
    on_ok_map c.try_step.result
    (Adds above spot (ByLemma c.in_ok-name.name c.in_ok-terms.terms ∷ []) c.args.fits.now.items
    c.try_step.new.fits.items)
    ((made : Goal) → slice_get spot.spec.now.goals number ≡ Some made →
    Adds above spot (by_whole_lemma made ∷ []) c.args.fits.now.items c.try_step.new.fits.items)
    (λ adds made at.
    let is : get_or c.as_slice.result.now number item ≡ made = ap (λ gs. get_or gs number item) c.as_slice.ensures
    ∙ get_or_from_slice_get spot.spec.now.goals number made item at in
    let name = c.in_ok-name.ensures ∙ ap (λ (x : Goal). x.name) is in
    let terms = c.in_ok-terms.ensures ∙ ap (λ (x : Clause). own_variables x) (c.requires.clause made at) in
    subst (λ (s : Step). Adds above spot (s ∷ []) c.args.fits.now.items c.try_step.new.fits.items)
    (λ i. ByLemma (name i) (terms i)) adds)
    c.try_step.ensures
