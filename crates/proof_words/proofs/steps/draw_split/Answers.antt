use Rattle.std.proofs.lemmas.Result.{IfOk-equal}
use Rattle.proof_words.proofs.Joined.{left}
use Rattle.proof_words.proofs.steps.draw_split.Goals as goal

pub returns : goal.returns
returns c =
    IfOk-equal c.draw_variable.result _ _ _ c.draw_variable.ensures
    (left c.args.page.now c.text.new.self _ _ c.in_ok-text.ensures)
