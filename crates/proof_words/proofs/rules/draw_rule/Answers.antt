use Rattle.std.proofs.Common.{◌≡◌, ap, ◌∙◌}
use Rattle.std.proofs.lemmas.Result.{IfOk-equal}
use Rattle.spec_core.specs.TermText.{variable_names}
use Rattle.page_core.specs.Pages.{after}
use Rattle.proof_words.specs.RuleEvents.{named_rule_events}
use Rattle.proof_words.proofs.rules.draw_rule.Goals as goal

pub returns : goal.returns
returns c =
    let rule = c.args.rule.now in
    let names : c.deref.result.now ≡ variable_names rule.vars =
    c.deref.ensures.value ∙ c.in_ok-names.ensures ∙ ap variable_names c.as_slice.ensures in
    IfOk-equal c.draw_named_rule.result _ _ _ c.draw_named_rule.ensures
    (λ i. after c.args.page.now (named_rule_events c.args.sig.now (names i) rule))
