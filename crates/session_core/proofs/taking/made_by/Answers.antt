use Rattle.std.proofs.Common.{◌≡◌, ◌∙◌, Ok, Err, ap, arith, length, refl, sym, subst, true, false}
use Rattle.std.specs.Prelude.{Contains}
use Rattle.block_steps.proofs.Taking.{AnsweredAt}
use Rattle.inference_rules.specs.Answers.{clauses_of}
use Rattle.inference_rules.specs.declared.nodes.StepError.TheVariants.{Why as because}
use Rattle.inference_rules.specs.Nodes.{AreNodes}
use Rattle.session_core.proofs.MadeSteps.{answered_makes, answered_refused}
use Rattle.session_core.proofs.taking.made_by.Goals as goal

pub children-requires-clause-nodes : goal.children-requires-clause-nodes
children-requires-clause-nodes g c =
    let h = rw (← c.admitted.view_is) at c.requires.nodes in
    subst (λ ns. AreNodes c.admitted.inside.spec.sig (clauses_of ns)) (sym c.as_slice-nodes.ensures.value) h

pub returns-then-is_neither : goal.returns-then-is_neither
returns-then-is_neither g c =
    let above = g.O.TermOrder.above c.admitted.inside.order in
    let spec = c.admitted.inside.spec in
    let n : c.len-node.result ≡ length c.args.taken.now.links.items = omega (arith, c.len-node.ensures) in
    let says = subst (λ k. AnsweredAt above spec (Contains c.args.proved.now) c.args.taken.now.nodes.items k
    c.args.step.now (Ok c.in-Ok.made)) n
    (subst (λ ns. AnsweredAt above spec (Contains c.args.proved.now) ns c.len-node.result c.args.step.now
    (Ok c.in-Ok.made)) c.as_slice-nodes.ensures.value c.in-Ok.ensures.answered) in (
      c.in-Ok.made,
      rw (← c.admitted.view_is) (answered_makes above spec (Contains c.args.proved.now)
          c.args.taken.now.nodes.items (length c.args.taken.now.links.items) c.args.step.now c.requires.next
          c.in-Ok.made says),
      c.if-is_neither.ensures.0 refl,
    )

pub returns-else-is_neither : goal.returns-else-is_neither
returns-else-is_neither g c =
    let above = g.O.TermOrder.above c.admitted.inside.order in
    let spec = c.admitted.inside.spec in
    let n : c.len-node.result ≡ length c.args.taken.now.links.items = omega (arith, c.len-node.ensures) in
    let says = subst (λ k. AnsweredAt above spec (Contains c.args.proved.now) c.args.taken.now.nodes.items k
    c.args.step.now (Ok c.in-Ok.made)) n
    (subst (λ ns. AnsweredAt above spec (Contains c.args.proved.now) ns c.len-node.result c.args.step.now
    (Ok c.in-Ok.made)) c.as_slice-nodes.ensures.value c.in-Ok.ensures.answered) in (
      rw (← c.admitted.view_is) (answered_makes above spec (Contains c.args.proved.now) c.args.taken.now.nodes.items
          (length c.args.taken.now.links.items) c.args.step.now c.requires.next c.in-Ok.made says),
      λ h. let q : false ≡ true = c.if-is_neither.ensures.1 h in cc,
    )

pub returns-in-Err-Why : goal.returns-in-Err-Why
returns-in-Err-Why g c =
    let above = g.O.TermOrder.above c.admitted.inside.order in
    let spec = c.admitted.inside.spec in
    let n : c.len-node.result ≡ length c.args.taken.now.links.items = omega (arith, c.len-node.ensures) in
    let says = subst (λ k. AnsweredAt above spec (Contains c.args.proved.now) c.args.taken.now.nodes.items k
    c.args.step.now (Err (because c.in-Err-Why.why))) n
    (subst (λ ns. AnsweredAt above spec (Contains c.args.proved.now) ns c.len-node.result c.args.step.now
    (Err (because c.in-Err-Why.why))) c.as_slice-nodes.ensures.value (subst (λ r. AnsweredAt above spec
    (Contains c.args.proved.now) c.as_slice-nodes.result.now c.len-node.result c.args.step.now r) (c.in-Err-Why.is
    ∙ ap Err c.in-Err-Why.field-0-is) c.children.ensures.answered)) in
    rw (← c.admitted.view_is) (answered_refused above spec (Contains c.args.proved.now) c.args.taken.now.nodes.items
    (length c.args.taken.now.links.items) c.args.step.now c.requires.next c.in-Err-Why.why says)
