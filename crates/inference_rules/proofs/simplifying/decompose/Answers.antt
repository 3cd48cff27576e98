use Rattle.std.proofs.Common.{◌∙◌, sym, inl, inr, refl}
use Rattle.clause_core.specs.Simplifying.{SameHeads, pairs}
use Rattle.clause_core.proofs.OneAnswer.{forth}
use Rattle.inference_rules.proofs.Simplified.{heads_at, conclusion_taken_apart, premise_taken_apart}
use Rattle.inference_rules.proofs.simplifying.decompose.Goals as goal

pub returns-in_default-arguments_of : goal.returns-in_default-arguments_of
returns-in_default-arguments_of c =
    inl (
      c.in-Some.ensures.0,
      inr (
        λ heads. c.in_default-arguments_of.ensures
            (forth (SameHeads c.args.spec.now.sig) c.in-Some.ensures.1 heads),
        refl,
      ),
    )

pub returns-in_ok-children : goal.returns-in_ok-children
returns-in_ok-children c =
    let at = c.in-Some.ensures.0 in
    let found = c.in-Some-arguments_of.ensures in
    conclusion_taken_apart c.args.spec.now c.args.clause.now c.args.conclusion c.args.number
    at (heads_at c.args.spec.now.sig at.equation c.in-Some.equation.now c.in-Some.ensures.1 found.0)
    c.if-conclusion.true c.in_ok-children.children.items c.in_ok-parts.parts.items
    (c.in_ok-parts.ensures ∙ sym (λ i. pairs (found.1 i) (found.2 i))) c.in_ok-children.ensures c.related.result
    (c.related.ensures c.args.clause.now)

pub returns-in_ok-child : goal.returns-in_ok-child
returns-in_ok-child c =
    let at = c.in-Some.ensures.0 in
    let found = c.in-Some-arguments_of.ensures in
    premise_taken_apart c.args.spec.now c.args.clause.now c.args.conclusion c.args.number
    at (heads_at c.args.spec.now.sig at.equation c.in-Some.equation.now c.in-Some.ensures.1 found.0)
    c.if-conclusion.false c.in_ok-child.child c.in_ok-parts.parts.items
    (c.in_ok-parts.ensures ∙ sym (λ i. pairs (found.1 i) (found.2 i))) c.in_ok-child.ensures
    c.related_alone.result (c.related_alone.ensures c.args.clause.now)
