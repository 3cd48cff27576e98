use Rattle.std.proofs.Common.{◌≡◌, ap, sym, ◌∙◌}
use Rattle.term_core.specs.Tree.{app, trees_of}
use Rattle.term_core.specs.View.{tree_of}
use Rattle.clause_places.proofs.PatternReferences.{argument_got}
use Rattle.clause_places.proofs.patterns.argument.Goals as goal

pub returns-in-App : goal.returns-in-App
returns-in-App c =
    let is : app c.in-App.field-0.0 (trees_of c.in-App.args) ≡ c.args.term.now =
    ap tree_of (sym c.in-App.is) ∙ c.term.view_is in
    argument_got c.get.result c.in-App.args c.args.index c.in-App.field-0.0 c.args.term.now is
    c.get.ensures
