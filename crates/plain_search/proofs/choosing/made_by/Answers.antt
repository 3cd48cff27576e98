use Rattle.std.proofs.Common.{[], subst}
use Rattle.std.specs.Prelude.{Contains, Err}
use Rattle.clause_core.specs.Steps.{row_of}
use Rattle.inference_rules.specs.declared.nodes.StepError.{StepError}
use Rattle.inference_rules.specs.Answers.{Answered, clauses_of}
use Rattle.plain_search.proofs.TakenCandidates.{not_made}
use Rattle.plain_search.proofs.choosing.made_by.Goals as goal

pub returns-in-Err-Why-clause-made : goal.returns-in-Err-Why-clause-made
returns-in-Err-Why-clause-made g c = λ clause at.
    let above = g.O.TermOrder.above c.args.order.now in
    let spec = c.args.spec.now in
    let ns = clauses_of c.args.nodes.now in
    let says = subst (λ (e : StepError). Answered above clause ns
    (row_of spec (Contains []) ns clause c.args.step.now) (Err e)) c.in-Err-Why.field-0-is
    (c.in-Err-Why.ensures.answered clause at) in
    not_made above c.one_answer.ensures spec c.requires.fine ns clause c.args.step.now c.in-Err-Why.field-0-0 says
