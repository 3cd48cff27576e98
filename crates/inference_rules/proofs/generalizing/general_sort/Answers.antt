use Rattle.std.proofs.Common.{◌≡◌, ap, sym, ◌∙◌}
use Rattle.term_core.specs.Tree.{app, trees_of}
use Rattle.term_core.specs.View.{tree_of}
use Rattle.inference_rules.proofs.Generalized.{general_of}
use Rattle.inference_rules.proofs.generalizing.general_sort.Goals as goal

pub returns-in-App : goal.returns-in-App
returns-in-App c =
    let view : app c.in-App.field-0.0 (trees_of c.in-App.field-1) ≡ c.args.term.now = ap tree_of
    (sym c.in-App.is) ∙ c.term.view_is in
    general_of c.args.sig.now c.args.ctx.now c.args.term.now c.in-App.field-0.0 (trees_of c.in-App.field-1)
    c.sort_of.result view c.sort_of.ensures
