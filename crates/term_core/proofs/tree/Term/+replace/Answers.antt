use Rattle.std.proofs.Common.{rules, ◌≡◌, ap, sym, ◌∙◌, Err}
use Rattle.std.proofs.lemmas.Option.{slice_get_within}
use Rattle.term_core.specs.View.{tree_of}
use Rattle.term_core.specs.Tree.{app, trees_of}
use Rattle.term_core.specs.Places.{HasNoPlace, IsReplaced}
use Rattle.term_core.proofs.Paths.{argument_of, no_place_without, no_place_below, exchanged_at, of_application}
use Rattle.term_core.proofs.tree.Term.+replace.Goals as goal

pub returns-in_default-numbered-clause-no_such_place : goal.returns-in_default-numbered-clause-no_such_place
returns-in_default-numbered-clause-no_such_place t c = λ _.
    of_application (λ path u. HasNoPlace path u) _ _ c.in-Some.number.now c.in-App.sym.0
    (trees_of c.in-App.args) _ c.in-Some.ensures (ap tree_of (sym c.in-App.is) ∙ c.self.view_is)
    (no_place_without c.in-App.sym.0 _ _ _ c.in_default-numbered.ensures)

pub returns-in_err-changed-clause-no_such_place : goal.returns-in_err-changed-clause-no_such_place
returns-in_err-changed-clause-no_such_place t c = λ e.
    let term : app c.in-App.sym.0 (trees_of c.in-App.args) ≡ c.args.self.now = ap tree_of (sym c.in-App.is)
    ∙ c.self.view_is in
    let argument = argument_of c.in-App.args _ c.in-Some.number.now c.in-Some-numbered.argument.now
    c.in-Some-numbered.ensures.0 c.in-Some-numbered.ensures.1 in
    let same : c.from_residual.result ≡ Err c.in_err-changed.field-0.0 = search rules in
    of_application (λ path u. HasNoPlace path u) _ _ c.in-Some.number.now c.in-App.sym.0
    (trees_of c.in-App.args) _ c.in-Some.ensures term
    (no_place_below c.in-App.sym.0 _ _ _ _ argument (c.in_err-changed.ensures.no_such_place (sym same ∙ e)))

pub exchanged-requires : goal.exchanged-requires
exchanged-requires t c = slice_get_within _ _ _ c.in-Some-numbered.ensures.1

pub returns-clause-replaced : goal.returns-clause-replaced
returns-clause-replaced t c =
    let term : app c.in-App.sym.0 (trees_of c.in-App.args) ≡ c.args.self.now = ap tree_of (sym c.in-App.is)
    ∙ c.self.view_is in
    let argument = argument_of c.in-App.args _ c.in-Some.number.now c.in-Some-numbered.argument.now
    c.in-Some-numbered.ensures.0 c.in-Some-numbered.ensures.1 in
    let exchange = exchanged_at c.in-App.args _ _ c.in-Some.number.now _ c.in-Some-numbered.ensures.0
    c.in_ok-exchanged.ensures in
    of_application (λ path u. IsReplaced path u c.args.new c.app.result) _ _ c.in-Some.number.now c.in-App.sym.0
    (trees_of c.in-App.args) _ c.in-Some.ensures term
    (_, _, _, argument, c.in_ok-changed.ensures.replaced, exchange, c.app.ensures)
