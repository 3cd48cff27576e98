use Rattle.std.proofs.Common.{ap, sym, ◌∙◌}
use Rattle.term_core.specs.Measures.{measure_of}
use Rattle.term_core.specs.Tree.{trees_of}
use Rattle.term_core.specs.View.{tree_of}
use Rattle.term_core.proofs.tree.Term.measure.Goals as goal

pub returns-in-App : goal.returns-in-App
returns-in-App c =
    c.below_symbol.ensures c.in-App.field-0.0 (trees_of c.in-App.args) c.measure.ensures
    ∙ ap (λ t. measure_of t) (ap tree_of (sym c.in-App.is) ∙ c.self.view_is)
