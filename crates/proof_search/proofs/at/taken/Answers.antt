use Rattle.std.proofs.Common.{Err, subst}
use Rattle.std.specs.Prelude.{Contains}
use Rattle.clause_core.specs.Steps.{row_of}
use Rattle.inference_rules.specs.declared.nodes.StepError.{StepError}
use Rattle.inference_rules.specs.Answers.{Answered, clauses_of}
use Rattle.proof_search.specs.Taking.{asks_of}
use Rattle.proof_search.proofs.Tests.{not_is}
use Rattle.proof_search.proofs.TakenSteps.{unmet, refused}
use Rattle.proof_search.proofs.at.taken.Goals as goal

pub returns-in-Ok : goal.returns-in-Ok
returns-in-Ok g c =
    let at = c.args.at.now in
    unmet (g.O.TermOrder.above c.args.order.now) c.one_answer.ensures at c.requires c.args.step
    (asks_of c.args.asks) c.in-Ok.made
    (c.in-Ok.ensures.answered at.here.now c.requires.here)
    (not_is c.is_met.result _ c.if-is_met.false c.is_met.ensures)

pub returns-in-Err-Why : goal.returns-in-Err-Why
returns-in-Err-Why g c =
    let at = c.args.at.now in
    let above = g.O.TermOrder.above c.args.order.now in
    let ns = clauses_of at.nodes.now in
    let says = subst (λ (e : StepError). Answered above at.here.now ns
    (row_of at.setting.now.spec.now (Contains at.setting.now.lemmas.now) ns at.here.now
    c.args.step) (Err e)) c.in-Err-Why.field-0-is
    (c.in-Err-Why.ensures.answered at.here.now c.requires.here) in
    refused above c.one_answer.ensures at c.requires c.args.step
    (asks_of c.args.asks) c.in-Err-Why.field-0-0 says
