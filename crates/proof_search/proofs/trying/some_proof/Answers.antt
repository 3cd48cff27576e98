use Rattle.std.proofs.Common.{◌<◌, ◌∙◌, length, ap, subst, arith}
use Rattle.clause_core.specs.declared.clauses.Clause.{Clause}
use Rattle.clause_core.specs.Limits.{IsWithin}
use Rattle.clause_core.specs.Tidied.{goal_clause}
use Rattle.routine_proof.specs.Routine.{no_split, split}
use Rattle.proof_search.proofs.BoundedProofs.{found_within}
use Rattle.proof_search.proofs.FewStarts.{few_starts}
use Rattle.proof_search.proofs.trying.some_proof.Goals as goal

pub returns-in-Proof : goal.returns-in-Proof
returns-in-Proof g c =
    found_within (g.O.TermOrder.above c.args.order.now) c.args.spec.now c.args.lemmas.now
    c.args.goal.now c.args.limits.nodes no_split
    c.in_ok-setting.setting.spec.now c.in_ok-setting.setting.lemmas.now
    c.in_ok-setting.ensures.1 c.in_ok-setting.ensures.2 tt
    c.in_ok-block.field-0 c.in-Proof.block c.in-Proof.is c.in_ok-block.ensures

pub overflow_cast-number-end : goal.overflow_cast-number-end
overflow_cast-number-end g c =
    let within =
    subst IsWithin c.in_ok-clause.ensures (c.within.ensures.0 c.if-not-within.false) in
    let few = few_starts c.tidying_laws.ensures c.args.goal.now within in
    let count = c.len-number-end.ensures
    ∙ ap (λ (x : Clause). length x.ctx) c.in_ok-clause.ensures in
    omega (arith, few, count)

pub returns-in-Proof-2 : goal.returns-in-Proof-2
returns-in-Proof-2 g c =
    let count = c.len-number-end.ensures
    ∙ ap (λ (x : Clause). length x.ctx) c.in_ok-clause.ensures in
    let lt : c.loop-number.number < length (goal_clause c.args.goal.now).ctx =
    omega (arith, c.loop-number-test.true, count) in
    found_within (g.O.TermOrder.above c.args.order.now) c.args.spec.now c.args.lemmas.now
    c.args.goal.now c.args.limits.nodes (split c.loop-number.number)
    c.in_ok-setting.setting.spec.now c.in_ok-setting.setting.lemmas.now
    c.in_ok-setting.ensures.1 c.in_ok-setting.ensures.2 lt
    c.in_ok-block-2.field-0 c.in-Proof-2.block c.in-Proof-2.is c.in_ok-block-2.ensures
