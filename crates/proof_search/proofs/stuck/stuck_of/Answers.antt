use Rattle.std.proofs.Common.{◌<◌, ◌∙◌, length, ap, subst, arith}
use Rattle.clause_core.specs.declared.clauses.Clause.{Clause}
use Rattle.clause_core.specs.Limits.{IsWithin}
use Rattle.clause_core.specs.Tidied.{goal_clause}
use Rattle.routine_proof.specs.Routine.{no_split, split}
use Rattle.proof_search.proofs.FewStarts.{few_starts}
use Rattle.proof_search.proofs.StuckNodes.{stuck_from, stuck_more}
use Rattle.proof_search.proofs.stuck.stuck_of.Goals as goal

pub overflow_cast-number-end : goal.overflow_cast-number-end
overflow_cast-number-end g c =
    let within =
    subst IsWithin c.in_ok-clause.ensures (c.within.ensures.0 c.if-not-within.false) in
    let few = few_starts c.tidying_laws.ensures c.args.goal.now within in
    let count = c.len-number-end.ensures
    ∙ ap (λ (x : Clause). length x.ctx) c.in_ok-clause.ensures in
    omega (arith, few, count)

pub loop-number-init : goal.loop-number-init
loop-number-init g c =
    stuck_from (g.O.TermOrder.above c.args.order.now) c.args.spec.now c.args.lemmas.now
    c.args.goal.now
    c.in_ok-setting.setting.spec.now c.in_ok-setting.setting.lemmas.now
    c.in_ok-setting.ensures.1 c.in_ok-setting.ensures.2 no_split tt
    c.in_ok-unsplit.unsplit.stuck.items c.in_ok-unsplit.ensures

pub loop-number-preserved : goal.loop-number-preserved
loop-number-preserved g c =
    let count = c.len-number-end.ensures
    ∙ ap (λ (x : Clause). length x.ctx) c.in_ok-clause.ensures in
    let lt : c.loop-number.number < length (goal_clause c.args.goal.now).ctx =
    omega (arith, c.loop-number-test.true, count) in
    stuck_more (g.O.TermOrder.above c.args.order.now) c.args.spec.now c.args.lemmas.now
    c.args.goal.now c.loop-number.found.items c.in_ok-met.met.stuck.items
    c.append.new.self.items c.loop-number.invariant
    (stuck_from (g.O.TermOrder.above c.args.order.now) c.args.spec.now c.args.lemmas.now
    c.args.goal.now
    c.in_ok-setting.setting.spec.now c.in_ok-setting.setting.lemmas.now
    c.in_ok-setting.ensures.1 c.in_ok-setting.ensures.2 (split c.loop-number.number) lt
    c.in_ok-met.met.stuck.items c.in_ok-met.ensures)
    c.in_ok-append.ensures.items
