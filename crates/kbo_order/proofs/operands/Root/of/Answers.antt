use Rattle.std.proofs.Common.{ap, sym, ◌∙◌}
use Rattle.term_core.specs.References.{terms_of}
use Rattle.term_core.specs.View.{tree_of}
use Rattle.term_order.proofs.Readings.{operand_app}
use Rattle.kbo_order.proofs.operands.Root.of.Goals as goal

pub returns-in-Var : goal.returns-in-Var
returns-in-Var c =
    sym c.resolved-resolved.ensures.same
    ∙ c.resolved-resolved.ensures.variable c.in-Var.x.0 (sym (ap tree_of (sym c.in-Var.is) ∙ c.term.view_is))

pub returns-in-App : goal.returns-in-App
returns-in-App c =
    sym c.resolved-resolved.ensures.same
    ∙ operand_app (terms_of c.args.list.now) c.resolved-resolved.result c.in-App.f c.as_slice.ensures
    c.in-App.is c.term.view_is
