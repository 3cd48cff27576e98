use Rattle.std.proofs.Common.{◌≡◌, ◌+◌, ◌<◌, ◌≤◌, List, [], ◌∷◌, ◌++◌, length, ap, sym, ◌∙◌, subst, arith}
use Rattle.std.specs.Prelude.{slice_get}
use Rattle.std.proofs.lemmas.List.{length-append, length-map}
use Rattle.clause_core.specs.declared.clauses.Clause.{Clause}
use Rattle.clause_core.specs.declared.steps.Step.{Step}
use Rattle.clause_core.specs.Tidied.{goal_clause}
use Rattle.inference_rules.specs.declared.nodes.Node.{Node}
use Rattle.inference_rules.specs.Answers.{clauses_of}
use Rattle.inference_rules.specs.Nodes.{AreNodes, clauses_made}
use Rattle.plain_search.specs.Blocks.{IsPlainBlock}
use Rattle.plain_search.proofs.BuiltBlocks.{start_stands, split_made, begins, starts, some_next, goes_further}
use Rattle.plain_search.proofs.BuiltBlocks.{built_few, built_whole}
use Rattle.plain_search.proofs.making.block_on.Goals as goal

-- the nodes of a block that begins with the goal's clause
first_of : (nodes others : List Node) (start clause : Clause) → nodes ≡ others →
    clauses_of others ≡ start ∷ [] → start ≡ clause → clauses_of nodes ≡ clause ∷ []
first_of nodes others start clause same are is = ap clauses_of same ∙ are ∙ ap (λ s. s ∷ []) is

pub made_by-requires-clause-nodes : goal.made_by-requires-clause-nodes
made_by-requires-clause-nodes g c =
    let e = first_of c.deref.result.now c.in_ok-block.block.nodes.items c.in_ok-start.start
    (goal_clause c.args.goal.now) c.deref.ensures.value c.in_ok-block.ensures.nodes c.in_ok-start.ensures in
    start_stands (g.O.TermOrder.above c.args.order.now) c.plain_blocks.ensures c.one_choice.ensures
    c.one_answer.ensures c.tidying_laws.ensures c.args.spec.now c.requires.fine c.args.goal.now
    c.requires.sorted c.args.var.0 c.requires.plain (clauses_of c.deref.result.now) e

pub unreachable-requires : goal.unreachable-requires
unreachable-requires g c =
    let e = first_of c.deref.result.now c.in_ok-block.block.nodes.items c.in_ok-start.start
    (goal_clause c.args.goal.now) c.deref.ensures.value c.in_ok-block.ensures.nodes c.in_ok-start.ensures in
    split_made (g.O.TermOrder.above c.args.order.now) c.plain_blocks.ensures c.one_choice.ensures
    c.one_answer.ensures c.tidying_laws.ensures c.args.spec.now c.requires.fine c.args.goal.now
    c.requires.sorted c.args.var.0 c.requires.plain (clauses_of c.deref.result.now) e c.in_ok-split.split
    c.in_ok-split.ensures c.in_ok-made.field-0 c.in_ok-made.ensures.made c.in_default.is

pub loop-alloc-init : goal.loop-alloc-init
loop-alloc-init g c =
    let e = first_of c.deref.result.now c.in_ok-block.block.nodes.items c.in_ok-start.start
    (goal_clause c.args.goal.now) c.deref.ensures.value c.in_ok-block.ensures.nodes c.in_ok-start.ensures in
    let split = c.in_ok-split.split in
    let made = c.in-Some.made in
    let s : c.push.new.self.items ≡ split ∷ [] = c.in_ok-push.ensures.items
    ∙ ap (λ ss. ss ++ split ∷ []) c.new-steps.ensures.items in
    let n : clauses_of c.add.new.self.nodes.items ≡ clauses_of c.deref.result.now
    ++ clauses_made made = c.in_ok-add.ensures.nodes ∙ ap (λ ns. clauses_of ns ++ clauses_made made)
    (sym c.deref.ensures.value) in
    begins (g.O.TermOrder.above c.args.order.now) c.plain_blocks.ensures c.one_choice.ensures
    c.one_answer.ensures c.tidying_laws.ensures c.args.spec.now c.requires.fine c.args.goal.now
    c.requires.sorted c.args.var.0 c.requires.plain (clauses_of c.deref.result.now) e split
    c.in_ok-split.ensures c.in_ok-made.field-0 c.in_ok-made.ensures.made made c.in-Some.is
    c.in_ok-made.ensures.nodes c.push.new.self.items s (clauses_of c.add.new.self.nodes.items) n

pub next_step-requires-clause-nodes : goal.next_step-requires-clause-nodes
next_step-requires-clause-nodes g c =
    let v : clauses_of c.deref-in-loop-alloc.result.now ≡ clauses_of c.loop-alloc.block.nodes.items = ap
    clauses_of c.deref-in-loop-alloc.ensures.value in
    subst (λ ns. AreNodes c.args.spec.now.sig ns) (sym v) c.loop-alloc.invariant.nodes_stand

pub next_step-requires-clause-start : goal.next_step-requires-clause-start
next_step-requires-clause-start g c = λ start at.
    let v : clauses_of c.deref-in-loop-alloc.result.now ≡ clauses_of c.loop-alloc.block.nodes.items = ap
    clauses_of c.deref-in-loop-alloc.ensures.value in
    starts (g.O.TermOrder.above c.args.order.now) c.plain_blocks.ensures c.one_choice.ensures
    c.one_answer.ensures c.tidying_laws.ensures c.args.spec.now c.requires.fine c.args.goal.now
    c.requires.sorted c.args.var.0 c.requires.plain c.loop-alloc.steps.items
    (clauses_of c.loop-alloc.block.nodes.items) c.loop-alloc.invariant start
    (ap (λ ns. slice_get ns 0) (sym v) ∙ at)

pub unreachable-requires-in_default-2 : goal.unreachable-requires-in_default-2
unreachable-requires-in_default-2 g c =
    let v : clauses_of c.deref-in-loop-alloc.result.now ≡ clauses_of c.loop-alloc.block.nodes.items = ap
    clauses_of c.deref-in-loop-alloc.ensures.value in
    let m : length (clauses_of c.loop-alloc.block.nodes.items) ≡ length
    c.loop-alloc.block.nodes.items = length-map c.loop-alloc.block.nodes.items (λ (d : Node). d.clause) in
    let lt : length c.loop-alloc.steps.items < length (clauses_of c.loop-alloc.block.nodes.items) = omega (
      arith,
      m,
      c.loop-alloc-test.true,
      c.len.ensures,
      c.len-in-loop-alloc.ensures,
      c.loop-alloc.steps.ok.0,
      c.loop-alloc.block.nodes.ok.0,
    ) in
    let k : c.len-node.result ≡ length c.loop-alloc.steps.items = omega (
      arith,
      c.len-node.ensures,
      c.loop-alloc.steps.ok.0,
    ) in
    some_next (g.O.TermOrder.above c.args.order.now) c.plain_blocks.ensures c.one_choice.ensures
    c.one_answer.ensures c.tidying_laws.ensures c.args.spec.now c.requires.fine c.args.goal.now
    c.requires.sorted c.args.var.0 c.requires.plain c.loop-alloc.steps.items
    (clauses_of c.loop-alloc.block.nodes.items) c.loop-alloc.invariant lt
    (clauses_of c.deref-in-loop-alloc.result.now) v c.len-node.result k c.in_ok-step.field-0
    c.in_ok-step.ensures.next c.in_default-2.is

pub loop-alloc-smaller : goal.loop-alloc-smaller
loop-alloc-smaller g c =
    let v : clauses_of c.deref-in-loop-alloc.result.now ≡ clauses_of c.loop-alloc.block.nodes.items = ap
    clauses_of c.deref-in-loop-alloc.ensures.value in
    let m : length (clauses_of c.loop-alloc.block.nodes.items) ≡ length
    c.loop-alloc.block.nodes.items = length-map c.loop-alloc.block.nodes.items (λ (d : Node). d.clause) in
    let lt : length c.loop-alloc.steps.items < length (clauses_of c.loop-alloc.block.nodes.items) = omega (
      arith,
      m,
      c.loop-alloc-test.true,
      c.len.ensures,
      c.len-in-loop-alloc.ensures,
      c.loop-alloc.steps.ok.0,
      c.loop-alloc.block.nodes.ok.0,
    ) in
    let k : c.len-node.result ≡ length c.loop-alloc.steps.items = omega (
      arith,
      c.len-node.ensures,
      c.loop-alloc.steps.ok.0,
    ) in
    let taken = c.in-Some-2.field-0 in
    let es : taken.step ≡ c.in-Some-2.step = (cc c.in-Some-2.step-is) in
    let em : taken.made ≡ c.in-Some-2.made = (cc c.in-Some-2.made-is) in
    let s : c.push-in-loop-alloc.new.self.items ≡ c.loop-alloc.steps.items
    ++ taken.step ∷ [] = (cc (c.in_ok-push-2.ensures.items, es)) in
    let n : clauses_of c.add-in-loop-alloc.new.self.nodes.items ≡ clauses_of c.loop-alloc.block.nodes.items
    ++ clauses_made taken.made = (cc (c.in_ok-add-2.ensures.nodes, em)) in
    let b = goes_further (g.O.TermOrder.above c.args.order.now) c.plain_blocks.ensures c.one_choice.ensures
    c.one_answer.ensures c.tidying_laws.ensures c.args.spec.now c.requires.fine c.args.goal.now
    c.requires.sorted c.args.var.0 c.requires.plain c.loop-alloc.steps.items
    (clauses_of c.loop-alloc.block.nodes.items) c.loop-alloc.invariant lt
    (clauses_of c.deref-in-loop-alloc.result.now) v c.len-node.result k c.in_ok-step.field-0
    c.in_ok-step.ensures.next taken c.in-Some-2.is c.in_ok-step.ensures.nodes
    c.push-in-loop-alloc.new.self.items s (clauses_of c.add-in-loop-alloc.new.self.nodes.items) n in
    let few = built_few (g.O.TermOrder.above c.args.order.now) c.args.spec.now c.args.goal.now c.args.var.0
    c.push-in-loop-alloc.new.self.items (clauses_of c.add-in-loop-alloc.new.self.nodes.items) b in
    let long : length c.push-in-loop-alloc.new.self.items ≡ length c.loop-alloc.steps.items + 1 = ap
    (λ (ss : List Step). length ss) s ∙ length-append c.loop-alloc.steps.items (taken.step ∷ []) in
    omega (arith, few, long)

pub loop-alloc-preserved : goal.loop-alloc-preserved
loop-alloc-preserved g c =
    let v : clauses_of c.deref-in-loop-alloc.result.now ≡ clauses_of c.loop-alloc.block.nodes.items = ap
    clauses_of c.deref-in-loop-alloc.ensures.value in
    let m : length (clauses_of c.loop-alloc.block.nodes.items) ≡ length
    c.loop-alloc.block.nodes.items = length-map c.loop-alloc.block.nodes.items (λ (d : Node). d.clause) in
    let lt : length c.loop-alloc.steps.items < length (clauses_of c.loop-alloc.block.nodes.items) = omega (
      arith,
      m,
      c.loop-alloc-test.true,
      c.len.ensures,
      c.len-in-loop-alloc.ensures,
      c.loop-alloc.steps.ok.0,
      c.loop-alloc.block.nodes.ok.0,
    ) in
    let k : c.len-node.result ≡ length c.loop-alloc.steps.items = omega (
      arith,
      c.len-node.ensures,
      c.loop-alloc.steps.ok.0,
    ) in
    let taken = c.in-Some-2.field-0 in
    let es : taken.step ≡ c.in-Some-2.step = (cc c.in-Some-2.step-is) in
    let em : taken.made ≡ c.in-Some-2.made = (cc c.in-Some-2.made-is) in
    let s : c.push-in-loop-alloc.new.self.items ≡ c.loop-alloc.steps.items
    ++ taken.step ∷ [] = (cc (c.in_ok-push-2.ensures.items, es)) in
    let n : clauses_of c.add-in-loop-alloc.new.self.nodes.items ≡ clauses_of c.loop-alloc.block.nodes.items
    ++ clauses_made taken.made = (cc (c.in_ok-add-2.ensures.nodes, em)) in
    let b = goes_further (g.O.TermOrder.above c.args.order.now) c.plain_blocks.ensures c.one_choice.ensures
    c.one_answer.ensures c.tidying_laws.ensures c.args.spec.now c.requires.fine c.args.goal.now
    c.requires.sorted c.args.var.0 c.requires.plain c.loop-alloc.steps.items
    (clauses_of c.loop-alloc.block.nodes.items) c.loop-alloc.invariant lt
    (clauses_of c.deref-in-loop-alloc.result.now) v c.len-node.result k c.in_ok-step.field-0
    c.in_ok-step.ensures.next taken c.in-Some-2.is c.in_ok-step.ensures.nodes
    c.push-in-loop-alloc.new.self.items s (clauses_of c.add-in-loop-alloc.new.self.nodes.items) n in
    b

pub returns : goal.returns
returns g c =
    let m : length (clauses_of c.loop-alloc.block.nodes.items) ≡ length
    c.loop-alloc.block.nodes.items = length-map c.loop-alloc.block.nodes.items (λ (d : Node). d.clause) in
    let past : length (clauses_of c.loop-alloc.block.nodes.items) ≤ length c.loop-alloc.steps.items = omega (
      arith,
      m,
      c.loop-alloc-test.false,
      c.len.ensures,
      c.len-in-loop-alloc.ensures,
      c.loop-alloc.steps.ok.0,
      c.loop-alloc.block.nodes.ok.0,
    ) in
    let whole = built_whole (g.O.TermOrder.above c.args.order.now) c.args.spec.now c.args.goal.now c.args.var.0
    c.loop-alloc.steps.items (clauses_of c.loop-alloc.block.nodes.items) c.loop-alloc.invariant past in
    subst (λ ss. IsPlainBlock (g.O.TermOrder.above c.args.order.now) c.args.spec.now c.args.goal.now
    c.args.var.0 ss) (sym c.from_vec.ensures) whole
