use Rattle.std.proofs.Common.{sym, subst}
use Rattle.clause_core.specs.declared.clauses.Clause.{Clause}
use Rattle.descent.specs.SortedChildren.{IsNode}
use Rattle.acceptance.specs.AllowedAnswers.{IsWholeBlock, TellsAllowed}
use Rattle.acceptance.specs.declared.answers.Allowed.TheVariants.{All, Not}
use Rattle.proof_search.specs.declared.starting.Built.{Built}
use Rattle.proof_search.specs.Starting.{start_of, IsBlock}
use Rattle.proof_search.proofs.StartProofs.{goal_node, none_built, links_whole, in_range, not_allowed, short_result}
use Rattle.proof_search.proofs.proving.proof_from.Goals as goal

pub block-requires-clause-node : goal.block-requires-clause-node
block-requires-clause-node g c =
    subst (IsNode c.args.setting.now.spec.now.sig) (sym c.in_ok-clause.ensures)
    (goal_node c.tidying_laws.ensures c.args.setting.now.spec.now c.requires.setting.fine
    c.args.goal.now c.requires.sorted c.requires.within)

pub allowed-requires : goal.allowed-requires
allowed-requires g c =
    let done =
    subst
    (λ (p : Clause × Built). IsBlock (g.O.TermOrder.above c.args.order.now)
    c.args.setting.now.spec.now c.args.setting.now.lemmas.now (start_of c.args.start) p.0
    c.args.most p.1)
    (λ i. (c.in_ok-clause.ensures i, c.in-Block.is i)) c.in_ok-first.ensures in
    subst IsWholeBlock (sym c.deref.ensures.value)
    (links_whole (g.O.TermOrder.above c.args.order.now) c.args.setting.now.spec.now
    c.args.setting.now.lemmas.now c.args.goal.now c.args.most (start_of c.args.start)
    c.in-Block.building done)

pub short_block-requires : goal.short_block-requires
short_block-requires g c =
    let done =
    subst
    (λ (p : Clause × Built). IsBlock (g.O.TermOrder.above c.args.order.now)
    c.args.setting.now.spec.now c.args.setting.now.lemmas.now (start_of c.args.start) p.0
    c.args.most p.1)
    (λ i. (c.in_ok-clause.ensures i, c.in-Block.is i)) c.in_ok-first.ensures in
    in_range (g.O.TermOrder.above c.args.order.now) c.args.setting.now.spec.now
    c.args.setting.now.lemmas.now c.args.goal.now c.args.most (start_of c.args.start)
    c.in-Block.building done
    _ c.from_vec.ensures

pub returns-in-Not-2 : goal.returns-in-Not-2
returns-in-Not-2 g c =
    let done =
    subst
    (λ (p : Clause × Built). IsBlock (g.O.TermOrder.above c.args.order.now)
    c.args.setting.now.spec.now c.args.setting.now.lemmas.now (start_of c.args.start) p.0
    c.args.most p.1)
    (λ i. (c.in_ok-clause.ensures i, c.in-Block.is i)) c.in_ok-first.ensures in
    let tells =
    subst (λ ls. TellsAllowed ls (Not c.in-Not-2.node)) c.deref.ensures.value
    (subst (λ a. TellsAllowed c.deref.result.now a) c.in-Not-2.is c.in_ok-allowed.ensures) in
    not_allowed (g.O.TermOrder.above c.args.order.now) c.args.setting.now.spec.now
    c.args.setting.now.lemmas.now c.args.goal.now c.args.most (start_of c.args.start)
    c.in-Block.building done
    c.one_answer.ensures c.one_relation.ensures c.requires.setting.fine c.in-Not-2.node tells
    c.first_step.result c.first_step.ensures

pub returns-in-All : goal.returns-in-All
returns-in-All g c =
    let done =
    subst
    (λ (p : Clause × Built). IsBlock (g.O.TermOrder.above c.args.order.now)
    c.args.setting.now.spec.now c.args.setting.now.lemmas.now (start_of c.args.start) p.0
    c.args.most p.1)
    (λ i. (c.in_ok-clause.ensures i, c.in-Block.is i)) c.in_ok-first.ensures in
    let tells =
    subst (λ ls. TellsAllowed ls All) c.deref.ensures.value
    (subst (λ a. TellsAllowed c.deref.result.now a) c.in-All.is c.in_ok-allowed.ensures) in
    short_result (g.O.TermOrder.above c.args.order.now) c.args.setting.now.spec.now
    c.args.setting.now.lemmas.now c.args.goal.now c.args.most (start_of c.args.start)
    c.in-Block.building done
    c.one_answer.ensures c.one_relation.ensures c.requires.setting.fine c.requires.within tells
    _ c.from_vec.ensures c.short_block.result c.short_block.ensures

pub returns-in-Not : goal.returns-in-Not
returns-in-Not g c =
    let none =
    subst
    (λ (p : Clause × Built). IsBlock (g.O.TermOrder.above c.args.order.now)
    c.args.setting.now.spec.now c.args.setting.now.lemmas.now (start_of c.args.start) p.0
    c.args.most p.1)
    (λ i. (c.in_ok-clause.ensures i, c.in-Not.is i)) c.in_ok-first.ensures in
    none_built (g.O.TermOrder.above c.args.order.now) c.args.setting.now.spec.now
    c.args.setting.now.lemmas.now c.args.goal.now c.args.most (start_of c.args.start)
    c.in-Not.first none
