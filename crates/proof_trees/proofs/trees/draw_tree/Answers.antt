use Rattle.std.proofs.Common.{◌∙◌, ◌<◌, List, [], ◌∷◌, ◌++◌, ap, sym, subst, length}
use Rattle.std.specs.List.{AllByRecursion}
use Rattle.page_core.specs.Pages.{after}
use Rattle.proof_trees.specs.Blocks.{block_of}
use Rattle.proof_trees.specs.Nodes.{outline}
use Rattle.proof_trees.specs.Pendings.{IsPending, lefts, work}
use Rattle.proof_trees.proofs.Stack.{less_work, same_page, still_pending}
use Rattle.proof_trees.proofs.trees.draw_tree.Goals as goal

front : {X : Type 0} (P : X → Type 0) (xs ys : List X) → AllByRecursion P (xs ++ ys) → AllByRecursion P xs
front P [] ys h = tt
front P (x ∷ xs) ys h = (h.0, front P xs ys h.1)

pub loop-next-smaller : goal.loop-next-smaller
loop-next-smaller c =
    let b = c.args.block.now in
    let o = outline (block_of b) in
    subst (λ ps. work o (length b.nodes.now) c.draw_next.new.pending.items < work o (length b.nodes.now) ps)
    (sym c.in-Some.ensures.items)
    (less_work o (length b.nodes.now) c.pop.new.self.items c.draw_next.new.pending.items c.in-Some.next
    c.loop-next.page c.draw_next.new.page c.in_ok-draw_next.ensures)

pub loop-next-preserved : goal.loop-next-preserved
loop-next-preserved c =
    let b = c.args.block.now in
    let o = outline (block_of b) in
    let before : AllByRecursion (IsPending o (length b.nodes.now)) (c.pop.new.self.items ++ c.in-Some.next ∷ []) =
    subst (λ ps. AllByRecursion (IsPending o (length b.nodes.now)) ps) c.in-Some.ensures.items
    c.loop-next.invariant.1 in (
      same_page o (length b.nodes.now) c.pop.new.self.items c.draw_next.new.pending.items c.in-Some.next
          c.loop-next.page c.draw_next.new.page c.in_ok-draw_next.ensures
          ∙ ap (λ ps. after c.loop-next.page (lefts o (length b.nodes.now) ps)) (sym c.in-Some.ensures.items)
          ∙ c.loop-next.invariant.0,
      still_pending o (length b.nodes.now) c.pop.new.self.items c.draw_next.new.pending.items c.in-Some.next
          c.loop-next.page c.draw_next.new.page c.in_ok-draw_next.ensures
          (front (IsPending o (length b.nodes.now)) c.pop.new.self.items (c.in-Some.next ∷ []) before),
    )
