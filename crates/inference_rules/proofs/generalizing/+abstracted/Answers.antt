use Rattle.std.proofs.Common.{◌≡◌, List, map, ap, sym, ◌∙◌, arith}
use Rattle.term_core.specs.Tree.{Tree, app, trees_of}
use Rattle.term_core.specs.View.{tree_of}
use Rattle.term_core.proofs.Trees.{weight-member}
use Rattle.clause_core.specs.Abstracting.{abstracted}
use Rattle.inference_rules.proofs.Generalized.{abstracted_here, abstracted_there}
use Rattle.inference_rules.proofs.generalizing.+abstracted.Goals as goal

pub abstracted-returns-then-same : goal.abstracted-returns-then-same
abstracted-returns-then-same t c =
    let view : app c.in-App.sym.0 (trees_of c.in-App.args) ≡ c.args.whole.now = ap tree_of (sym c.in-App.is)
    ∙ c.whole.view_is in
    c.var-then-same.ensures
    ∙ sym (abstracted_here c.args.term.now c.args.var.0 c.in-App.sym.0 c.in-App.args c.args.whole.now view
    (c.same.ensures.0 c.if-same.true))

pub abstracted-returns-in_ok-args-in-App : goal.abstracted-returns-in_ok-args-in-App
abstracted-returns-in_ok-args-in-App t c =
    let view : app c.in-App.sym.0 (trees_of c.in-App.args) ≡ c.args.whole.now = ap tree_of (sym c.in-App.is)
    ∙ c.whole.view_is in
    let made : c.in_ok-args-in-App.args ≡ map (abstracted c.args.term.now c.args.var.0) c.in-App.args =
    c.in_ok-args-in-App.ensures ∙ ap (λ (us : List Tree). map (abstracted c.args.term.now c.args.var.0) us)
    c.as_slice.ensures in
    c.app.ensures ∙ ap (λ (us : List Tree). app c.in-App.sym.0 (trees_of us)) made
    ∙ abstracted_there c.args.term.now c.args.var.0 c.in-App.sym.0 c.in-App.args c.args.whole.now view
    (λ e. let yes = c.same.ensures.1 e in let no = c.if-same.false in cc)

pub abstracted_all-abstracted-requires : goal.abstracted_all-abstracted-requires
abstracted_all-abstracted-requires t
    c = (
      omega (
        arith,
        weight-member c.args.terms.now c.loop-whole.whole-index c.whole-item.result
            c.loop-whole-test.true c.whole-item.is,
      ),
      tt,
    )
