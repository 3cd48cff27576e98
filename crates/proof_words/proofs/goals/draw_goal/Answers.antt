use Rattle.std.proofs.Common.{◌≡◌, ap, ◌∙◌, None}
use Rattle.std.proofs.lemmas.Result.{IfOk-equal}
use Rattle.spec_core.specs.TermText.{variable_names}
use Rattle.page_core.specs.Pages.{after}
use Rattle.proof_words.specs.ClauseEvents.{implication_events}
use Rattle.proof_words.proofs.goals.draw_goal.Goals as goal

pub returns : goal.returns
returns c =
    let g = c.args.goal.now in
    let names : c.deref.result.now ≡ variable_names g.vars =
    c.deref.ensures.value ∙ c.in_ok-names.ensures ∙ ap variable_names c.as_slice.ensures in
    let premises : c.as_slice-premises.result.now ≡ g.premises = c.as_slice-premises.ensures in
    let conclusions : c.as_slice-2.result.now ≡ g.conclusions = c.as_slice-2.ensures in
    IfOk-equal c.draw_implication.result _ _ _ c.draw_implication.ensures
    (λ i. after c.args.page.now (implication_events c.args.sig.now (names i) None (premises i) (conclusions i)))
