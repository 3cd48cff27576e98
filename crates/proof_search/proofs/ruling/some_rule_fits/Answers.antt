use Rattle.std.proofs.Common.{◌≡◌, false, ap, sym, ◌∙◌}
use Rattle.std.specs.Prelude.{is_some}
use Rattle.term_core.specs.Tree.{var, app, trees_of}
use Rattle.term_core.specs.View.{tree_of}
use Rattle.proof_search.proofs.UnfitRules.{where_none, none_variable, one_more, none_called}
use Rattle.proof_search.proofs.ruling.some_rule_fits.Goals as goal

pub returns-in_default : goal.returns-in_default
returns-in_default c n by fits =
    let m = c.in_default.field-0.0 in
    let e : var m ≡ c.args.term.now = ap tree_of (sym c.in_default.is) ∙ c.term.view_is in
    absurd (none_variable c.args.setting.now.spec.now c.args.term.now c.requires.fine m e n by fits)

pub loop-place-preserved : goal.loop-place-preserved
loop-place-preserved c =
    let none : is_some c.fitting.result ≡ false = cc (c.is_some.ensures, c.if-is_some.false) in
    one_more c.args.setting.now.spec.now c.args.term.now c.rules_of-place-items.result.now
    c.loop-place.place-index c.loop-place.invariant
    (where_none c.fitting.result _ _ none c.fitting.ensures)

pub returns : goal.returns
returns c n by fits =
    let spec = c.args.setting.now.spec.now in
    let f = c.in-App.sym.0 in
    let ts = trees_of c.in-App.field-1 in
    let e : app f ts ≡ c.args.term.now = ap tree_of (sym c.in-App.is) ∙ c.term.view_is in
    let places = c.rules_of-place-items.result.now in
    absurd (none_called spec c.args.term.now c.requires.fine f ts e places
    (c.rules_of-place-items.ensures ∙ c.requires.rules f) c.loop-place.place-index
    c.loop-place-test.false c.loop-place.invariant n by fits)
