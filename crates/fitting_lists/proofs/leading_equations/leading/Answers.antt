-- The first conclusion that has all variables leads, or else the first such premise.
use Rattle.std.proofs.Common.{sym, ◌∙◌}
use Rattle.fitting_lists.proofs.LeadingEquations.{conclusion_place, premise_place}
use Rattle.fitting_lists.proofs.leading_equations.leading.Goals as goal

pub returns-then-is_some : goal.returns-then-is_some
returns-then-is_some c =
    conclusion_place c.args.clause.now c.in_ok-conclusion.conclusion
    (sym c.is_some.ensures ∙ c.if-is_some.true) c.in_ok-conclusion.ensures

pub returns : goal.returns
returns c =
    premise_place c.args.clause.now c.in_ok-conclusion.conclusion c.in_ok-premise.premise
    (sym c.is_some.ensures ∙ c.if-is_some.false) c.in_ok-conclusion.ensures
    c.in_ok-premise.ensures
