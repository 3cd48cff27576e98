use Rattle.std.proofs.Common.{sym, subst}
use Rattle.clause_core.specs.declared.clauses.Clause.{Clause}
use Rattle.descent.specs.SortedChildren.{IsNode}
use Rattle.acceptance.specs.AllowedAnswers.{IsWholeBlock, TellsAllowed}
use Rattle.acceptance.specs.declared.answers.Allowed.TheVariants.{All}
use Rattle.proof_search.specs.declared.starting.Built.{Built}
use Rattle.proof_search.specs.Bounding.{IsBlockWithin}
use Rattle.proof_search.specs.Starting.{start_of}
use Rattle.proof_search.proofs.BoundedProofs.{within_result}
use Rattle.proof_search.proofs.StartProofs.{goal_node, links_whole, in_range, short_result}
use Rattle.proof_search.proofs.bounding.bounded_proof.Goals as goal

pub bounded_block-requires-clause-node : goal.bounded_block-requires-clause-node
bounded_block-requires-clause-node g c =
    subst (IsNode c.args.setting.now.spec.now.sig) (sym c.in_ok-clause.ensures)
    (goal_node c.tidying_laws.ensures c.args.setting.now.spec.now c.requires.setting.fine
    c.args.goal.now c.requires.sorted c.requires.within)

pub allowed-requires : goal.allowed-requires
allowed-requires g c =
    let done =
    subst
    (λ (p : Clause × Built). IsBlockWithin (g.O.TermOrder.above c.args.order.now)
    c.args.setting.now.spec.now c.args.setting.now.lemmas.now (start_of c.args.start) p.0
    c.args.limits.nodes p.1)
    (λ i. (c.in_ok-clause.ensures i, c.in-Block.is i)) c.in_ok-first.ensures in
    subst IsWholeBlock (sym c.deref.ensures.value)
    (links_whole (g.O.TermOrder.above c.args.order.now) c.args.setting.now.spec.now
    c.args.setting.now.lemmas.now c.args.goal.now c.args.limits.nodes (start_of c.args.start)
    c.in-Block.building done)

pub short_block-requires : goal.short_block-requires
short_block-requires g c =
    let done =
    subst
    (λ (p : Clause × Built). IsBlockWithin (g.O.TermOrder.above c.args.order.now)
    c.args.setting.now.spec.now c.args.setting.now.lemmas.now (start_of c.args.start) p.0
    c.args.limits.nodes p.1)
    (λ i. (c.in_ok-clause.ensures i, c.in-Block.is i)) c.in_ok-first.ensures in
    in_range (g.O.TermOrder.above c.args.order.now) c.args.setting.now.spec.now
    c.args.setting.now.lemmas.now c.args.goal.now c.args.limits.nodes (start_of c.args.start)
    c.in-Block.building done
    _ c.from_vec.ensures

pub returns-in-All : goal.returns-in-All
returns-in-All g c =
    let done =
    subst
    (λ (p : Clause × Built). IsBlockWithin (g.O.TermOrder.above c.args.order.now)
    c.args.setting.now.spec.now c.args.setting.now.lemmas.now (start_of c.args.start) p.0
    c.args.limits.nodes p.1)
    (λ i. (c.in_ok-clause.ensures i, c.in-Block.is i)) c.in_ok-first.ensures in
    let tells =
    subst (λ ls. TellsAllowed ls All) c.deref.ensures.value
    (subst (λ a. TellsAllowed c.deref.result.now a) c.in-All.is c.in_ok-allowed.ensures) in
    within_result (g.O.TermOrder.above c.args.order.now) c.args.setting.now.spec.now
    c.args.setting.now.lemmas.now c.args.goal.now c.args.limits.nodes (start_of c.args.start)
    c.short_block.result
    (short_result (g.O.TermOrder.above c.args.order.now) c.args.setting.now.spec.now
    c.args.setting.now.lemmas.now c.args.goal.now c.args.limits.nodes (start_of c.args.start)
    c.in-Block.building done
    c.one_answer.ensures c.one_relation.ensures c.requires.setting.fine c.requires.within tells
    _ c.from_vec.ensures c.short_block.result c.short_block.ensures)
