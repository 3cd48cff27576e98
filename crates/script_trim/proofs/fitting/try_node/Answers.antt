use Rattle.std.proofs.Common.{◌≡◌, List, [], ◌∷◌, subst, ap, sym, ◌∙◌}
use Rattle.std.specs.Prelude.{slice_get, Contains, Some}
use Rattle.term_core.specs.Tree.{Tree}
use Rattle.clause_core.specs.declared.clauses.Clause.{Clause}
use Rattle.clause_core.specs.declared.steps.Step.TheVariants.{Subsume}
use Rattle.inference_rules.specs.Answers.{clauses_of}
use Rattle.script_trim.specs.Closing.{own_variables}
use Rattle.script_trim.specs.Fitting.{IsByItself}
use Rattle.script_trim.specs.Trying.{Adds}
use Rattle.script_trim.proofs.Adding.{leaves_out}
use Rattle.script_trim.proofs.ByItself.{is_by_itself}
use Rattle.script_trim.proofs.Passing.{less_node}
use Rattle.script_trim.proofs.Whole.{on_ok_map, clause_there}
use Rattle.script_trim.proofs.fitting.try_node.Goals as goal

pub returns-then-number-spot : goal.returns-then-number-spot
returns-then-number-spot g c = λ d at.
    let above = g.O.TermOrder.above c.args.order.now in
    let spot = c.args.spot.now in
    let nodes = clauses_of spot.nodes.now in
    let there = subst (λ n. slice_get nodes n ≡ Some d) c.if-number-spot.true at in
    leaves_out above spot (Subsume c.args.number (own_variables d)) c.args.fits.now.items
    (subst (λ n. IsByItself above spot.spec.now (Contains spot.proved.now) nodes spot.number
    (Subsume n (own_variables d))) (sym c.if-number-spot.true)
    (is_by_itself above c.one_relation.ensures spot.spec.now d spot.number (Contains spot.proved.now) nodes there))

pub returns-then-not-subsumes : goal.returns-then-not-subsumes
returns-then-not-subsumes g c = λ d at.
    let spot = c.args.spot.now in
    less_node (g.O.TermOrder.above c.args.order.now) spot c.requires.spot c.args.number d _ c.subsumes.result
    c.args.fits.now.items
    (clause_there spot.nodes.now c.args.number c.index-spot-number.result d c.requires.there at) c.subsumes.ensures
    c.if-not-subsumes.true at

pub returns : goal.returns
returns g c =
    let above = g.O.TermOrder.above c.args.order.now in
    let spot = c.args.spot.now in
    let number = c.args.number in
    let node = c.index-spot-number.result in
    on_ok_map c.try_step.result
    (Adds above spot (Subsume number c.in_ok-terms.terms ∷ []) c.args.fits.now.items c.try_step.new.fits.items)
    ((d : Clause) → slice_get (clauses_of spot.nodes.now) number ≡ Some d →
    Adds above spot (Subsume number (own_variables d) ∷ []) c.args.fits.now.items c.try_step.new.fits.items)
    (λ adds d at.
    subst (λ (ts : List Tree). Adds above spot (Subsume number ts ∷ []) c.args.fits.now.items
    c.try_step.new.fits.items)
    (c.in_ok-terms.ensures ∙ ap (λ (x : Clause). own_variables x)
    (clause_there spot.nodes.now number node d c.requires.there at)) adds)
    c.try_step.ensures
