use Rattle.std.proofs.Common.{[], ◌∷◌, ◌++◌}
use Rattle.std.specs.Prelude.{codes}
use Rattle.std.proofs.lemmas.Result.{on_ok_weaker}
use Rattle.proof_words.specs.ListEvents.{plain}
use Rattle.proof_words.proofs.Joined.{joined}
use Rattle.open_goals.specs.Words.{equation_events}
use Rattle.open_goals.proofs.words.draw_premise.Goals as goal

pub returns : goal.returns
returns c =
    let equation = equation_events c.args.naming.now.sig.now c.args.naming.now.names.now c.args.premise.now in
    let behind = plain (codes " isn't among the premises here") ∷ [] in
    on_ok_weaker c.text-2.result
    (λ last. joined c.args.page.now c.text.new.self c.text-2.new.self (plain (codes ", but its premise ") ∷ [])
    (equation ++ behind) c.in_ok-text.ensures
    (joined c.text.new.self c.draw_equation.new.page c.text-2.new.self equation behind
    c.in_ok-draw_equation.ensures last))
    c.text-2.ensures
