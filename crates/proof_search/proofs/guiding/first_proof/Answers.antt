use Rattle.std.proofs.Common.{◌≡◌, ◌<◌, ◌≤◌, Some, length, ap, sym, ◌∙◌, subst, arith}
use Rattle.std.specs.Option.{IfSome}
use Rattle.std.proofs.lemmas.Bool.{eqb-true}
use Rattle.clause_core.specs.declared.clauses.Clause.{Clause}
use Rattle.clause_core.specs.Limits.{IsWithin}
use Rattle.clause_core.specs.Tidied.{goal_clause}
use Rattle.routine_proof.specs.Routine.{no_split, split}
use Rattle.proof_search.specs.Proving.{IsCoverOf}
use Rattle.proof_search.proofs.FewStarts.{few_starts}
use Rattle.proof_search.proofs.FirstProofs.{by_setting, first_start, splits_left, found_split, later_left, same_left}
use Rattle.proof_search.proofs.FirstProofs.{ends}
use Rattle.proof_search.proofs.Tests.{is_some_same}
use Rattle.proof_search.proofs.guiding.first_proof.Goals as goal

pub returns-in-Proof : goal.returns-in-Proof
returns-in-Proof g c =
    first_start (g.O.TermOrder.above c.args.order.now) c.args.spec.now c.args.lemmas.now
    c.args.goal.now c.args.nodes c.in_ok-block.field-0 c.in-Proof.block c.in-Proof.is
    (by_setting (g.O.TermOrder.above c.args.order.now)
    c.in_ok-setting.setting.spec.now c.args.spec.now
    c.in_ok-setting.setting.lemmas.now c.args.lemmas.now
    c.in_ok-setting.ensures.1 c.in_ok-setting.ensures.2 c.args.goal.now c.args.nodes no_split
    c.in_ok-block.field-0 c.in_ok-block.ensures)

pub overflow_cast-number-end : goal.overflow_cast-number-end
overflow_cast-number-end g c =
    let within =
    subst IsWithin c.in_ok-clause.ensures (c.within.ensures.0 c.if-not-within.false) in
    let few = few_starts c.tidying_laws.ensures c.args.goal.now within in
    let count = c.len-number-end.ensures
    ∙ ap (λ (x : Clause). length x.ctx) c.in_ok-clause.ensures in
    omega (arith, few, count)

pub loop-number-init : goal.loop-number-init
loop-number-init g c =
    splits_left (g.O.TermOrder.above c.args.order.now) c.args.spec.now c.args.lemmas.now
    c.args.goal.now c.args.nodes
    c.in_ok-block.field-0 c.in-Not.first c.in-Not.is
    (by_setting (g.O.TermOrder.above c.args.order.now)
    c.in_ok-setting.setting.spec.now c.args.spec.now
    c.in_ok-setting.setting.lemmas.now c.args.lemmas.now
    c.in_ok-setting.ensures.1 c.in_ok-setting.ensures.2 c.args.goal.now c.args.nodes
    no_split c.in_ok-block.field-0 c.in_ok-block.ensures)

pub returns-in-Proof-2 : goal.returns-in-Proof-2
returns-in-Proof-2 g c =
    let count = c.len-number-end.ensures
    ∙ ap (λ (x : Clause). length x.ctx) c.in_ok-clause.ensures in
    let lt : c.loop-number.number < length (goal_clause c.args.goal.now).ctx =
    omega (arith, c.loop-number-test.true, count) in
    found_split (g.O.TermOrder.above c.args.order.now) c.args.spec.now c.args.lemmas.now
    c.args.goal.now c.args.nodes
    c.loop-number.number c.loop-number.invariant lt
    c.in_ok-block-2.field-0 c.in-Proof-2.block c.in-Proof-2.is
    (by_setting (g.O.TermOrder.above c.args.order.now)
    c.in_ok-setting.setting.spec.now c.args.spec.now
    c.in_ok-setting.setting.lemmas.now c.args.lemmas.now
    c.in_ok-setting.ensures.1 c.in_ok-setting.ensures.2 c.args.goal.now c.args.nodes
    (split c.loop-number.number) c.in_ok-block-2.field-0 c.in_ok-block-2.ensures)

pub loop-number-preserved-then-eq : goal.loop-number-preserved-then-eq
loop-number-preserved-then-eq g c =
    let count = c.len-number-end.ensures
    ∙ ap (λ (x : Clause). length x.ctx) c.in_ok-clause.ensures in
    let lt : c.loop-number.number < length (goal_clause c.args.goal.now).ctx =
    omega (arith, c.loop-number-test.true, count) in
    let equal : c.in_ok-same.same ≡ Some (record { 0 = c.loop-number.number }) =
    is_some_same _ (λ a b e. let n = eqb-true a.0 b.0 e in λ i. record { 0 = n i })
    c.in_ok-same.same (record { 0 = c.loop-number.number }) (sym c.eq.ensures ∙ c.if-eq.true) in
    same_left (g.O.TermOrder.above c.args.order.now) c.args.spec.now c.args.lemmas.now
    c.args.goal.now c.args.nodes
    c.loop-number.number c.loop-number.invariant lt c.one_answer.ensures c.requires.fine
    c.in_ok-block.field-0 c.in-Not.first c.in-Not.is
    (by_setting (g.O.TermOrder.above c.args.order.now)
    c.in_ok-setting.setting.spec.now c.args.spec.now
    c.in_ok-setting.setting.lemmas.now c.args.lemmas.now
    c.in_ok-setting.ensures.1 c.in_ok-setting.ensures.2 c.args.goal.now c.args.nodes
    no_split c.in_ok-block.field-0 c.in_ok-block.ensures)
    c.in_ok-same.same equal
    (subst (λ (x : Clause). IfSome c.in_ok-same.same (IsCoverOf c.args.spec.now x c.in-Not.first))
    c.in_ok-clause.ensures c.in_ok-same.ensures)

pub loop-number-preserved : goal.loop-number-preserved
loop-number-preserved g c =
    let count = c.len-number-end.ensures
    ∙ ap (λ (x : Clause). length x.ctx) c.in_ok-clause.ensures in
    let lt : c.loop-number.number < length (goal_clause c.args.goal.now).ctx =
    omega (arith, c.loop-number-test.true, count) in
    later_left (g.O.TermOrder.above c.args.order.now) c.args.spec.now c.args.lemmas.now
    c.args.goal.now c.args.nodes
    c.loop-number.number c.loop-number.invariant lt
    c.in_ok-block-2.field-0 c.in_default.field-0 c.in_default.is
    (by_setting (g.O.TermOrder.above c.args.order.now)
    c.in_ok-setting.setting.spec.now c.args.spec.now
    c.in_ok-setting.setting.lemmas.now c.args.lemmas.now
    c.in_ok-setting.ensures.1 c.in_ok-setting.ensures.2 c.args.goal.now c.args.nodes
    (split c.loop-number.number) c.in_ok-block-2.field-0 c.in_ok-block-2.ensures)

pub returns : goal.returns
returns g c =
    let count = c.len-number-end.ensures
    ∙ ap (λ (x : Clause). length x.ctx) c.in_ok-clause.ensures in
    let le : length (goal_clause c.args.goal.now).ctx ≤ c.loop-number.number =
    omega (arith, c.loop-number-test.false, count) in
    ends (g.O.TermOrder.above c.args.order.now) c.args.spec.now c.args.lemmas.now
    c.args.goal.now c.args.nodes
    c.loop-number.number c.loop-number.invariant le
