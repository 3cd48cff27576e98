use Rattle.std.proofs.Common.{[], ◌∷◌, ◌++◌}
use Rattle.std.specs.Prelude.{codes}
use Rattle.std.proofs.lemmas.Result.{on_ok_weaker}
use Rattle.proof_words.specs.ListEvents.{plain}
use Rattle.proof_words.proofs.Joined.{joined}
use Rattle.open_goals.specs.Words.{premise_events, term_events}
use Rattle.open_goals.proofs.words.draw_lacks.Goals as goal

pub returns : goal.returns
returns c =
    let sig = c.args.naming.now.sig.now in
    let names = c.args.naming.now.names.now in
    let term = term_events sig names c.args.term.now in
    let premise = premise_events sig names c.args.premise.now in
    on_ok_weaker c.draw_premise.result
    (λ last. joined c.args.page.now c.text.new.self c.draw_premise.new.page (plain (codes " fits at ") ∷ [])
    (term ++ premise) c.in_ok-text.ensures
    (joined c.text.new.self c.draw_term.new.page c.draw_premise.new.page term premise c.in_ok-draw_term.ensures
    last))
    c.draw_premise.ensures
