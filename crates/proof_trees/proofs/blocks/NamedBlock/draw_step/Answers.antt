use Rattle.std.proofs.Common.{length, refl, sym}
use Rattle.std.proofs.lemmas.Option.{slice_get_past, slice_get_read}
use Rattle.page_core.proofs.Pages.{after-none}
use Rattle.proof_trees.proofs.blocks.NamedBlock.draw_step.Goals as goal

pub returns-in_default : goal.returns-in_default
returns-in_default c =
    rw (slice_get_past c.args.self.now.steps.now c.args.node c.in_default.ensures.lookup.3)
    (sym (after-none c.args.page.now))

pub returns : goal.returns
returns c =
    rw (slice_get_read c.args.self.now.steps.now (length c.args.self.now.steps.now) c.args.node
    c.in-Some.step.now refl c.in-Some.ensures.lookup.3.0 c.in-Some.ensures.lookup.1)
    (rw (← c.names_at.ensures) (rw (← c.referred_names.ensures) c.draw_step.ensures))
