use Rattle.std.proofs.Common.{ap, sym, refl, ◌∙◌}
use Rattle.term_core.specs.View.{tree_of}
use Rattle.path_order.proofs.Patterns.{variable_in_pattern, pattern_over_variable}
use Rattle.path_order.proofs.path.told_by_patterns.Goals as goal

pub returns-in-Var-App : goal.returns-in-Var-App
returns-in-Var-App c =
    λ order values.
    variable_in_pattern order values c.args.t c.args.s c.in-Var-App.x.0 c.in-Var-App.field-0-1.0 c.in-Var-App.field-1-1
    c.if-not-t.false c.if-not-s.false
    (ap tree_of (sym c.in-Var-App.is-0) ∙ c.term.view_is) (ap tree_of (sym c.in-Var-App.is-1) ∙ c.other.view_is)
    (c.occurs.ensures.0 c.if-occurs.true)

pub returns-in-App-Var : goal.returns-in-App-Var
returns-in-App-Var c =
    λ order values.
    pattern_over_variable order values c.args.t c.args.s c.in-App-Var.y.0 c.in-App-Var.field-0-0.0
    c.in-App-Var.field-1-0
    c.if-not-t.false c.if-not-s.false
    (ap tree_of (sym c.in-App-Var.is-0) ∙ c.term.view_is) (ap tree_of (sym c.in-App-Var.is-1) ∙ c.other.view_is)
    (c.if-occurs-2.ensures.0 refl)
