use Rattle.std.proofs.Common.{◌≡◌, ◌∙◌, ◌+◌, ◌-◌, List, [], ◌∷◌, ◌++◌, ap, refl, length}
use Rattle.std.proofs.lemmas.List.{append_assoc}
use Rattle.page_core.specs.declared.parts.Part.TheVariants.{Case}
use Rattle.page_core.specs.Events.{begins}
use Rattle.page_core.specs.Pages.{after}
use Rattle.page_core.proofs.Pages.{after-after}
use Rattle.proof_trees.specs.declared.trees.Pending.{Pending}
use Rattle.proof_trees.specs.declared.trees.Pending.TheVariants.{Cases, EndCase, Tree}
use Rattle.proof_trees.specs.Blocks.{block_of}
use Rattle.proof_trees.specs.Nodes.{heading_events, outline}
use Rattle.proof_trees.proofs.Answered.{on_ok_map, nonzero}
use Rattle.proof_trees.proofs.Stack.{case_next}
use Rattle.proof_trees.proofs.WholeBlocks.{heading_some}
use Rattle.proof_trees.proofs.trees.begin_case.Goals as goal

pub returns : goal.returns
returns c =
    let b = c.args.block.now in
    let i = c.args.index in
    let old = c.args.pending.now.items in
    let others : List Pending = Cases c.args.parent (i + 1) (c.args.left - 1) ∷ [] in
    let child : List Pending = Tree c.child-child.result ∷ [] in
    let stack : c.push-2.new.pending.items ≡ (old ++ others) ++ EndCase ∷ [] =
    c.in_ok-push-2.ensures ∙ ap (λ ps. ps ++ EndCase ∷ []) c.in_ok-push.ensures in
    let page : c.draw_heading.new.page ≡ after c.args.page.now
    (begins Case ∷ heading_events (block_of b) c.args.parent i) =
    c.in_ok-draw_heading.ensures
    ∙ ap (λ p. after p (heading_events (block_of b) c.args.parent i)) c.in_ok-begin.ensures
    ∙ after-after c.args.page.now (begins Case ∷ []) (heading_events (block_of b) c.args.parent i) in
    on_ok_map c.push-3.result _ _
    (λ last. case_next (outline (block_of b)) (length b.nodes.now) c.args.parent i c.args.left (i + 1)
    (c.args.left - 1) refl
    (nonzero c.args.left c.requires.some) c.requires.all (heading_some b c.args.parent i)
    c.child-child.result c.child-child.ensures old c.push-3.new.pending.items c.args.page.now
    c.draw_heading.new.page page
    (last ∙ ap (λ ps. ps ++ child) stack ∙ append_assoc (old ++ others) (EndCase ∷ []) child
    ∙ append_assoc old others (EndCase ∷ child))) c.push-3.ensures
