use Rattle.std.proofs.Common.{sym, subst}
use Rattle.spec_core.specs.declared.records.Spec.{Spec}
use Rattle.clause_core.specs.Clauses.{ClauseIsSorted}
use Rattle.plain_search.proofs.TakenCandidates.{here, here_there, stands_none, made_none, made_some}
use Rattle.plain_search.proofs.choosing.taken_by.Goals as goal

pub step-requires-clause-sorted : goal.step-requires-clause-sorted
step-requires-clause-sorted g c =
    let n0 = c.index-nodes-0.result in
    let n = c.index-nodes-node.result in
    let above = g.O.TermOrder.above c.args.order.now in
    let at = here_there above c.args.spec.now c.args.nodes.now c.args.node c.requires.in_range n0 n c.args.candidate in
    let node = c.requires.nodes c.args.node _ at in
    subst (λ (s : Spec). ClauseIsSorted s.sig (here above c.args.spec.now c.args.nodes.now c.args.node
    c.requires.in_range n0 n c.args.candidate)) (sym c.requires.its) node.sorted

pub returns-in_default-clause-taken : goal.returns-in_default-clause-taken
returns-in_default-clause-taken g c =
    stands_none (g.O.TermOrder.above c.args.order.now) c.args.spec.now c.args.nodes.now c.args.node
    c.requires.in_range c.index-nodes-0.result c.index-nodes-node.result c.args.candidate
    c.args.rewriter.now c.in_ok-step.field-0 c.requires.its c.in_default.is c.in_ok-step.ensures

pub returns-in-None-clause-taken : goal.returns-in-None-clause-taken
returns-in-None-clause-taken g c =
    made_none (g.O.TermOrder.above c.args.order.now) c.args.spec.now c.args.nodes.now c.args.node
    c.requires.in_range c.index-nodes-0.result c.index-nodes-node.result c.args.candidate
    c.args.rewriter.now c.in_ok-step.field-0 c.in-Some.step c.requires.its c.in-Some.is c.in_ok-step.ensures
    c.in_ok-made_by.field-0 c.in_ok-made_by.ensures.made c.in-None.is

pub returns-in-Some-2-clause-taken : goal.returns-in-Some-2-clause-taken
returns-in-Some-2-clause-taken g c =
    made_some (g.O.TermOrder.above c.args.order.now) c.args.spec.now c.args.nodes.now c.args.node
    c.requires.in_range c.index-nodes-0.result c.index-nodes-node.result c.args.candidate
    c.args.rewriter.now c.in_ok-step.field-0 c.in-Some.step c.requires.its c.in-Some.is c.in_ok-step.ensures
    c.in_ok-made_by.field-0 c.in_ok-made_by.ensures.made c.in-Some-2.made c.in-Some-2.is
