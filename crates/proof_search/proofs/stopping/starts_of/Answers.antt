use Rattle.std.proofs.Common.{◌<◌, ◌∙◌, length, ap, subst, sym, arith}
use Rattle.clause_core.specs.declared.clauses.Clause.{Clause}
use Rattle.clause_core.specs.Limits.{IsWithin}
use Rattle.clause_core.specs.Tidied.{goal_clause}
use Rattle.routine_proof.specs.Routine.{no_split, split}
use Rattle.proof_search.specs.Stuck.{AreStuckStarts}
use Rattle.proof_search.proofs.FewStarts.{few_starts}
use Rattle.proof_search.proofs.StuckNodes.{more_starts, start_stuck}
use Rattle.proof_search.proofs.stopping.starts_of.Goals as goal

pub overflow_cast-number-end : goal.overflow_cast-number-end
overflow_cast-number-end g c =
    let within =
    subst IsWithin c.in_ok-clause.ensures (c.within.ensures.0 c.if-not-within.false) in
    let few = few_starts c.tidying_laws.ensures c.args.goal.now within in
    let count = c.len-number-end.ensures
    ∙ ap (λ (x : Clause). length x.ctx) c.in_ok-clause.ensures in
    omega (arith, few, count)

pub loop-number-init : goal.loop-number-init
loop-number-init g c =
    let above = g.O.TermOrder.above c.args.order.now in
    let spec = c.args.spec.now in
    let lemmas = c.args.lemmas.now in
    let goal = c.args.goal.now in
    more_starts above spec lemmas goal c.new-found.result.items _ c.push.new.self.items
    (subst (AreStuckStarts above spec lemmas goal) (sym c.new-found.ensures.items) tt) (
      tt,
      start_stuck above spec lemmas goal c.in_ok-setting.setting.spec.now c.in_ok-setting.setting.lemmas.now
          c.in_ok-setting.ensures.1 c.in_ok-setting.ensures.2 no_split c.in_ok-unsplit.unsplit.stuck.items
          c.in_ok-unsplit.ensures,
    )
    c.in_ok-push.ensures.items

pub loop-number-preserved : goal.loop-number-preserved
loop-number-preserved g c =
    let above = g.O.TermOrder.above c.args.order.now in
    let spec = c.args.spec.now in
    let lemmas = c.args.lemmas.now in
    let goal = c.args.goal.now in
    let count = c.len-number-end.ensures
    ∙ ap (λ (x : Clause). length x.ctx) c.in_ok-clause.ensures in
    let lt : c.loop-number.number < length (goal_clause goal).ctx =
    omega (arith, c.loop-number-test.true, count) in
    more_starts above spec lemmas goal c.loop-number.found.items _ c.push-in-loop-number.new.self.items
    c.loop-number.invariant (
      lt,
      start_stuck above spec lemmas goal c.in_ok-setting.setting.spec.now c.in_ok-setting.setting.lemmas.now
          c.in_ok-setting.ensures.1 c.in_ok-setting.ensures.2 (split c.loop-number.number)
          c.in_ok-met.met.stuck.items c.in_ok-met.ensures,
    )
    c.in_ok-push-2.ensures.items
