use Rattle.std.proofs.Common.{[], ◌∷◌, ap, ◌∙◌}
use Rattle.std.specs.Fmt.{decimal}
use Rattle.std.proofs.lemmas.Result.{IfOk-equal}
use Rattle.page_core.specs.Pages.{after}
use Rattle.proof_words.specs.ListEvents.{plain}
use Rattle.proof_words.proofs.Joined.{left}
use Rattle.proof_words.proofs.steps.draw_decompose.Goals as goal

pub returns : goal.returns
returns c =
    let p = c.text.new.self in
    let q = c.text-2.new.self in
    let name = c.in_ok-text-2.ensures ∙ ap (λ text. after p (plain text ∷ [])) c.equation_name.ensures in
    let number = ap (λ n. after q (plain (decimal n) ∷ [])) c.from.ensures in
    IfOk-equal c.number.result _ _ _ c.number.ensures
    (number ∙ left p q _ _ name ∙ left c.args.page.now p _ _ c.in_ok-text.ensures)
