use Rattle.std.proofs.Common.{[], ◌∷◌}
use Rattle.std.proofs.lemmas.Result.{err_from_is_err_and}
use Rattle.clause_core.specs.Says.{IsChild, IsReference}
use Rattle.clause_core.specs.Subsuming.{subsumed_by, subsume_row}
use Rattle.inference_rules.specs.Answers.{clauses_of}
use Rattle.inference_rules.proofs.Ends.{made_answered}
use Rattle.inference_rules.proofs.ReferredRows.{node_refused, node_made, no_pairs, one_pair}
use Rattle.inference_rules.proofs.RowAnswers.{refused, made}
use Rattle.inference_rules.proofs.TestableSides.{within_testable}
use Rattle.inference_rules.proofs.subsuming.subsume.Goals as goal

pub returns-in_err-instance : goal.returns-in_err-instance
returns-in_err-instance g c =
    let p = err_from_is_err_and c.from_residual.result c.from_residual.ensures.1 in
    let at = c.in-Some.ensures in
    let error = c.in_err-instance.field-0.0 in
    rw (p.1, p.2)
    (refused (g.O.TermOrder.above c.args.scope.now.order.now) c.args.here.now []
    (subsume_row c.args.scope.now.spec.now c.args.here.now (clauses_of c.args.scope.now.nodes.now) c.args.number
    c.args.terms.now) error
    (node_refused (λ d. subsumed_by c.args.scope.now.spec.now c.args.here.now d c.args.terms.now
    (λ x. (c.args.number, x) ∷ [])) (clauses_of c.args.scope.now.nodes.now) c.args.number at.0
    c.in-Some.node.now.clause at.1 error
    (c.in_err-instance.ensures.row (λ x. (c.args.number, x) ∷ []))))

pub reference-requires-clause-node : goal.reference-requires-clause-node
reference-requires-clause-node g c = within_testable c.args.here.now c.requires

pub reference-requires-clause-instance : goal.reference-requires-clause-instance
reference-requires-clause-instance g c = within_testable c.in_ok-instance.instance c.in_ok-instance.ensures.within

pub returns : goal.returns
returns g c =
    let above = g.O.TermOrder.above c.args.scope.now.order.now in
    let at = c.in-Some.ensures in
    let x = c.in_ok-instance.instance in
    let h = c.push.ensures in
    made above c.args.here.now [] (subsume_row c.args.scope.now.spec.now c.args.here.now (clauses_of c.args.scope.now.nodes.now)
    c.args.number c.args.terms.now) [] ((c.args.number, x) ∷ []) c.limited.result
    (node_made (λ d. subsumed_by c.args.scope.now.spec.now c.args.here.now d c.args.terms.now
    (λ z. (c.args.number, z) ∷ [])) (clauses_of c.args.scope.now.nodes.now) c.args.number at.0
    c.in-Some.node.now.clause at.1 [] ((c.args.number, x) ∷ [])
    (c.in_ok-instance.ensures.row (λ z. (c.args.number, z) ∷ [])))
    (made_answered above c.args.here.now [] ((c.args.number, x) ∷ [])
    (record { clauses = c.new.result; refs = c.push.new.self }) c.limited.result
    (no_pairs (IsChild above c.args.here.now) c.new.result c.new.ensures)
    (one_pair (IsReference above c.args.here.now) (c.args.number, x) c.in_ok-reference.field-0 c.new-refs.result
    c.push.new.self c.new-refs.ensures c.in_ok-push.ensures.pushed c.in_ok-reference.ensures)
    c.limited.ensures)
