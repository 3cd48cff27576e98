use Rattle.std.proofs.lemmas.Result.{IfOk-equal}
use Rattle.proof_words.proofs.Joined.{left}
use Rattle.proof_words.proofs.steps.draw_generalize.Goals as goal

pub returns : goal.returns
returns c =
    IfOk-equal c.draw_side.result _ _ _ c.draw_side.ensures
    (left c.args.page.now c.text.new.self _ _ c.in_ok-text.ensures)
