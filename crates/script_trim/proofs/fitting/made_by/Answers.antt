use Rattle.std.proofs.Common.{Err, subst}
use Rattle.std.specs.Prelude.{Contains}
use Rattle.clause_core.specs.Steps.{row_of}
use Rattle.inference_rules.specs.declared.nodes.StepError.{StepError}
use Rattle.inference_rules.specs.Answers.{Answered, clauses_of}
use Rattle.script_trim.proofs.TriedSteps.{makes_nothing}
use Rattle.script_trim.proofs.fitting.made_by.Goals as goal

pub returns-in-Ok : goal.returns-in-Ok
returns-in-Ok g c =
    let spot = c.args.spot.now in
    record {
      clause = spot.here.now;
      is = c.requires.here;
      says =
          c.in-Ok.ensures.answered spot.here.now c.requires.here;
    }

pub returns-in-Err-Why : goal.returns-in-Err-Why
returns-in-Err-Why g c =
    let spot = c.args.spot.now in
    let above = g.O.TermOrder.above c.args.order.now in
    let nodes = clauses_of spot.nodes.now in
    makes_nothing above c.one_answer.ensures spot c.requires c.args.step.now c.in-Err-Why.field-0-0
    (subst (λ (e : StepError). Answered above spot.here.now nodes
    (row_of spot.spec.now (Contains spot.proved.now) nodes spot.here.now c.args.step.now)
    (Err e)) c.in-Err-Why.field-0-is (c.in-Err-Why.ensures.answered spot.here.now c.requires.here))
