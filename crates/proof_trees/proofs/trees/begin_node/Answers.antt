use Rattle.std.proofs.Common.{◌∙◌, ◌-◌, arith, sym, length}
use Rattle.proof_trees.specs.Blocks.{block_of}
use Rattle.proof_trees.specs.Nodes.{outline}
use Rattle.proof_trees.proofs.Answered.{on_ok_map, nonzero}
use Rattle.proof_trees.proofs.Stack.{cases_left, child_left}
use Rattle.proof_trees.proofs.WholeBlocks.{node_is, node_some}
use Rattle.proof_trees.proofs.trees.begin_node.Goals as goal

pub returns-then-has_cases : goal.returns-then-has_cases
returns-then-has_cases c =
    let b = c.args.block.now in
    on_ok_map c.push.result _ _
    (λ stack. cases_left (outline (block_of b)) (length b.nodes.now) c.args.node
    (node_is b c.requires c.args.node) (node_some b c.args.node)
    c.args.pending.now.items c.args.page.now c.draw_node.new.page c.in_ok-draw_node.ensures
    (sym c.has_cases.ensures ∙ c.if-has_cases.true) c.child_count-left.result c.child_count-left.ensures
    c.push.new.pending.items stack) c.push.ensures

pub returns : goal.returns
returns c =
    let b = c.args.block.now in
    on_ok_map c.push-2.result _ _
    (λ stack. child_left (outline (block_of b)) (length b.nodes.now) c.args.node
    (node_is b c.requires c.args.node) (node_some b c.args.node)
    c.args.pending.now.items c.args.page.now c.draw_node.new.page c.in_ok-draw_node.ensures
    (sym c.has_cases.ensures ∙ c.if-has_cases.false) (c.child_count-left.result - 1)
    (sym c.child_count-left.ensures ∙ nonzero c.child_count-left.result c.if-left-eq0.false) c.child.result
    (omega (arith, c.child.ensures)) c.push-2.new.pending.items stack) c.push-2.ensures
