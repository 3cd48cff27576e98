use Rattle.std.proofs.Common.{◌≡◌, Some, refl, ap, sym, ◌∙◌}
use Rattle.std.specs.Prelude.{slice_get}
use Rattle.term_core.specs.Tree.{var, app, trees_of}
use Rattle.term_core.specs.View.{tree_of}
use Rattle.term_core.proofs.Trees.{list_of-trees_of}
use Rattle.rule_code.proofs.Looking.{missing, blocked, reached, deeper, got_past}
use Rattle.rule_code.proofs.Ranges.{item_listed}
use Rattle.rule_code.proofs.symbols.+symbol_at.Goals as goal

pub returns-in-None : goal.returns-in-None
returns-in-None t c = sym (missing c.args.below.now c.args.argument c.args.terms.now
    (got_past c.args.terms.now c.args.argument c.in-None.ensures.lookup.3))

pub returns-in-Var : goal.returns-in-Var
returns-in-Var t c =
    let e : var c.in-Var.field-0.0 ≡ c.in-Some.term.now = ap tree_of (sym c.in-Var.is) ∙ c.term.view_is in
    let at : slice_get c.args.terms.now c.args.argument ≡ Some c.in-Some.term.now = item_listed c.args.terms.now
    c.args.terms.now c.args.argument c.in-Some.term.now refl c.in-Some.ensures.lookup.3.0
    c.in-Some.ensures.lookup.1 in
    sym (blocked c.args.below.now c.args.argument c.in-Var.field-0.0 c.args.terms.now (at ∙ ap (λ z. Some z) (sym e)))

pub returns-in-None-front : goal.returns-in-None-front
returns-in-None-front t c =
    let e : app c.in-App.sym.0 (trees_of c.in-App.args) ≡ c.in-Some.term.now = ap tree_of (sym c.in-App.is)
    ∙ c.term.view_is in
    let at : slice_get c.args.terms.now c.args.argument ≡ Some c.in-Some.term.now = item_listed c.args.terms.now
    c.args.terms.now c.args.argument c.in-Some.term.now refl c.in-Some.ensures.lookup.3.0
    c.in-Some.ensures.lookup.1 in
    sym (reached c.args.below.now c.args.argument c.in-App.sym.0 (trees_of c.in-App.args) c.args.terms.now
    (at ∙ ap (λ z. Some z) (sym e)) c.in-None-front.ensures)

pub returns-in-Some-front : goal.returns-in-Some-front
returns-in-Some-front t c =
    let e : app c.in-App.sym.0 (trees_of c.in-App.args) ≡ c.in-Some.term.now = ap tree_of (sym c.in-App.is)
    ∙ c.term.view_is in
    let at : slice_get c.args.terms.now c.args.argument ≡ Some c.in-Some.term.now = item_listed c.args.terms.now
    c.args.terms.now c.args.argument c.in-Some.term.now refl c.in-Some.ensures.lookup.3.0
    c.in-Some.ensures.lookup.1 in
    c.symbol_at.ensures ∙ sym (deeper c.args.below.now c.in-Some-front.rest.now c.args.argument
    c.in-Some-front.next.now c.in-App.sym.0 (trees_of c.in-App.args) c.as_slice.result.now c.args.terms.now
    (at ∙ ap (λ z. Some z) (sym e)) c.in-Some-front.ensures (list_of-trees_of c.in-App.args
    ∙ sym c.as_slice.ensures))
