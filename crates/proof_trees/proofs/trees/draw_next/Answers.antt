use Rattle.std.proofs.Common.{◌∙◌, sym, subst, length}
use Rattle.page_core.proofs.Pages.{after-none}
use Rattle.proof_trees.specs.Blocks.{block_of}
use Rattle.proof_trees.specs.Nodes.{outline}
use Rattle.proof_trees.specs.Pendings.{DrawsNext}
use Rattle.proof_trees.proofs.Stack.{no_case_left}
use Rattle.proof_trees.proofs.trees.draw_next.Goals as goal

pub returns-in-Cases-default-default-eq0 : goal.returns-in-Cases-default-default-eq0
returns-in-Cases-default-default-eq0 c =
    let b = c.args.block.now in
    let at = c.in-Cases-default-default-eq0 in
    subst (λ p. DrawsNext (outline (block_of b)) (length b.nodes.now) p c.args.pending.now.items
    c.args.pending.now.items c.args.page.now c.args.page.now) (sym at.is)
    (no_case_left (outline (block_of b)) (length b.nodes.now) at.parent at.index at.left
    (sym at.left-is ∙ at.left-test) c.args.pending.now.items c.args.page.now (sym (after-none c.args.page.now)))
