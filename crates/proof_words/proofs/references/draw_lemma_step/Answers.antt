use Rattle.std.proofs.Common.{◌≡◌, ap, ◌∙◌}
use Rattle.std.proofs.lemmas.Result.{IfOk-equal}
use Rattle.page_core.specs.Pages.{after}
use Rattle.proof_words.specs.Lemmas.{goal_named, lemma_events, lemma_names}
use Rattle.proof_words.specs.StepEvents.{use_events}
use Rattle.proof_words.proofs.Joined.{left}
use Rattle.proof_words.proofs.references.draw_lemma_step.Goals as goal

pub returns : goal.returns
returns c =
    let spec = c.args.at.now.spec.now in
    let p = c.text.new.self in
    let q = c.draw_lemma.new.page in
    let naming = c.naming.ensures in
    let referred : c.deref.result.now ≡ lemma_names (goal_named c.args.name.now 0 spec.goals) =
    c.deref.ensures.value ∙ c.in_ok-referred.ensures ∙ ap lemma_names c.in_ok-found.ensures in
    let claims = ap (λ found. after p (lemma_events spec.sig c.args.name.now found)) c.in_ok-found.ensures in
    IfOk-equal c.draw_use.result _ _ _ c.draw_use.ensures
    ((λ i. after q (use_events (naming.sig i) (naming.names i) (referred i) c.args.left c.args.terms.now))
    ∙ left p q _ _ (c.in_ok-draw_lemma.ensures ∙ claims)
    ∙ left c.args.page.now p _ _ c.in_ok-text.ensures)
