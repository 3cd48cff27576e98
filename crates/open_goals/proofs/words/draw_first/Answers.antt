use Rattle.std.proofs.Common.{[], ◌∷◌, ◌++◌}
use Rattle.std.specs.Prelude.{codes}
use Rattle.std.proofs.lemmas.Result.{on_ok_weaker}
use Rattle.proof_words.specs.ListEvents.{plain}
use Rattle.proof_words.proofs.Joined.{joined}
use Rattle.open_goals.specs.Words.{variable_events}
use Rattle.open_goals.proofs.words.draw_first.Goals as goal

pub returns : goal.returns
returns c =
    let variable = variable_events c.args.naming.now.sig.now c.args.naming.now.names.now c.args.variable in
    let behind = plain (codes " first: ") ∷ [] in
    on_ok_weaker c.text-2.result
    (λ last. joined c.args.page.now c.text.new.self c.text-2.new.self (plain (codes "split ") ∷ [])
    (variable ++ behind) c.in_ok-text.ensures
    (joined c.text.new.self c.draw_variable.new.page c.text-2.new.self variable behind
    c.in_ok-draw_variable.ensures last))
    c.text-2.ensures
