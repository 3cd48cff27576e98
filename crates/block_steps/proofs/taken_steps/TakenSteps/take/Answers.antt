use Rattle.std.proofs.Common.{◌<◌, length, ap, arith, sym, subst}
use Rattle.std.specs.Prelude.{Contains, Err}
use Rattle.spec_admit.specs.Admission.{Admission}
use Rattle.block_steps.specs.Taken.{TakesStep}
use Rattle.std.proofs.lemmas.Result.{err_from_is_err_and}
use Rattle.inference_rules.specs.Answers.{clauses_of}
use Rattle.inference_rules.specs.Nodes.{AreNodes}
use Rattle.block_steps.proofs.Taking.{AnsweredAt, step_stops, step_taken}
use Rattle.block_steps.proofs.taken_steps.TakenSteps.take.Goals as goal

pub children-requires-clause-nodes : goal.children-requires-clause-nodes
children-requires-clause-nodes g c =
    let h = rw (← c.admitted.view_is) at c.requires.nodes in
    subst (λ ns. AreNodes c.admitted.inside.spec.sig (clauses_of ns)) (sym c.as_slice-nodes.ensures.value) h

pub returns-in_err-made : goal.returns-in_err-made
returns-in_err-made g c =
    let p = err_from_is_err_and c.from_residual.result c.from_residual.ensures.1 in
    let lt : length c.args.self.now.links.items < length c.args.self.now.nodes.items =
    omega (arith, ap length c.as_slice-nodes.ensures.value, ap length c.as_slice-links.ensures.value) in
    let says =
    subst (λ ns. AnsweredAt (g.O.TermOrder.above c.admitted.inside.order) c.admitted.inside.spec
    (Contains c.args.proved.now) ns (length c.args.self.now.links.items) c.args.step.now
    (Err c.in_err-made.field-0.0)) c.as_slice-nodes.ensures.value
    (subst (λ ls. AnsweredAt (g.O.TermOrder.above c.admitted.inside.order) c.admitted.inside.spec
    (Contains c.args.proved.now) c.as_slice-nodes.result.now (length ls) c.args.step.now
    (Err c.in_err-made.field-0.0)) c.as_slice-links.ensures.value c.in_err-made.ensures.answered) in
    rw (p.1, p.2)
    (subst (λ (a : Admission _). TakesStep (g.O.TermOrder.above a.order) a.spec (Contains c.args.proved.now)
    c.args.self.now c.args.self.now c.args.step.now (Err c.in_err-made.field-0.0)) c.admitted.view_is
    (step_stops (g.O.TermOrder.above c.admitted.inside.order) c.admitted.inside.spec
    (Contains c.args.proved.now) c.args.self.now c.args.step.now lt c.args.self.now c.in_err-made.field-0.0
    says))

pub returns : goal.returns
returns g c =
    let lt : length c.args.self.now.links.items < length c.args.self.now.nodes.items =
    omega (arith, ap length c.as_slice-nodes.ensures.value, ap length c.as_slice-links.ensures.value) in
    let says =
    rw (c.as_slice-nodes.ensures.value, c.as_slice-links.ensures.value) at c.in_ok-made.ensures.answered in
    let are = rw (← c.admitted.view_is) at c.requires.nodes in
    rw (← c.admitted.view_is) (step_taken (g.O.TermOrder.above c.admitted.inside.order) c.admitted.inside.spec
    (Contains c.args.proved.now) c.args.self.now c.args.step.now lt c.add.new.self c.in_ok-made.made are
    says c.in_ok-made.ensures.nodes c.in_ok-add.ensures.nodes c.in_ok-add.ensures.links)
