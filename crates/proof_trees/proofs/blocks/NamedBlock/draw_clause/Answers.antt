use Rattle.std.proofs.Common.{◌≡◌, None, sym}
use Rattle.std.specs.Prelude.{slice_get}
use Rattle.std.proofs.lemmas.Option.{slice_get-map, slice_get_past}
use Rattle.inference_rules.specs.declared.nodes.Node.{Node}
use Rattle.page_core.proofs.Pages.{after-none}
use Rattle.proof_trees.proofs.blocks.NamedBlock.draw_clause.Goals as goal

pub returns-in-None-get : goal.returns-in-None-get
returns-in-None-get c =
    let none : slice_get c.args.self.now.nodes.now c.args.node ≡ None =
    slice_get_past c.args.self.now.nodes.now c.args.node c.in-None-get.ensures.lookup.3 in
    rw (slice_get-map (λ (n : Node). n.clause) c.args.self.now.nodes.now c.args.node)
    (rw none (sym (after-none c.args.page.now)))
