use Rattle.std.proofs.Common.{[], ◌∷◌, ap, ◌∙◌}
use Rattle.std.specs.Fmt.{decimal}
use Rattle.std.proofs.lemmas.Result.{IfOk-equal}
use Rattle.page_core.specs.Pages.{after}
use Rattle.proof_words.specs.ListEvents.{plain}
use Rattle.proof_words.proofs.Joined.{left}
use Rattle.proof_words.proofs.steps.draw_match.Goals as goal

pub returns : goal.returns
returns c =
    let p = c.draw_said.new.page in
    let number = ap (λ n. after p (plain (decimal n) ∷ [])) c.from.ensures in
    IfOk-equal c.number.result _ _ _ c.number.ensures
    (number ∙ left c.args.page.now p _ _ c.in_ok-draw_said.ensures)
