use Rattle.std.proofs.Common.{◌∙◌}
use Rattle.std.proofs.lemmas.Result.{IfOk-equal}
use Rattle.page_core.specs.Pages.{after}
use Rattle.proof_words.specs.StepEvents.{use_events}
use Rattle.proof_words.proofs.Joined.{left}
use Rattle.proof_words.proofs.references.draw_hyp.Goals as goal

pub returns : goal.returns
returns c =
    let p = c.text.new.self in
    let q = c.draw_node.new.page in
    let r = c.text-2.new.self in
    let naming = c.naming.ensures in
    IfOk-equal c.draw_use.result _ _ _ c.draw_use.ensures
    ((λ i. after r
    (use_events (naming.sig i) (naming.names i) c.args.at.now.referred.now c.args.left c.args.terms.now))
    ∙ left q r _ _ c.in_ok-text-2.ensures
    ∙ left p q _ _ c.in_ok-draw_node.ensures
    ∙ left c.args.page.now p _ _ c.in_ok-text.ensures)
