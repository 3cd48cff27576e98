use Rattle.std.proofs.Common.{◌∙◌, ap}
use Rattle.clause_core.specs.declared.clauses.Relation.TheVariants.{Less}
use Rattle.clause_core.specs.NumberedEquations.{exchanged}
use Rattle.inference_rules.proofs.Simplified.{one_child, drop_answered}
use Rattle.inference_rules.proofs.simplifying.drop_equation.Goals as goal

pub returns : goal.returns
returns c = λ spec.
    let at = c.in-Some.ensures.0 in
    drop_answered spec c.args.clause.now c.args.conclusion c.args.number at c.related_alone.result
    (one_child c.args.clause.now Less c.in_ok-child.child _ c.related_alone.result
    (c.in_ok-child.ensures at ∙ ap (λ es. exchanged c.args.conclusion c.args.clause.now at es)
    c.new.ensures.items) (c.related_alone.ensures c.args.clause.now))
