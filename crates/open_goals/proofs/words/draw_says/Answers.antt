use Rattle.std.proofs.Common.{[], ◌∷◌}
use Rattle.std.specs.Prelude.{codes}
use Rattle.std.proofs.lemmas.Result.{on_ok_weaker}
use Rattle.proof_words.specs.ListEvents.{plain}
use Rattle.proof_words.proofs.Joined.{joined}
use Rattle.open_goals.specs.Words.{premise_events}
use Rattle.open_goals.proofs.words.draw_says.Goals as goal

pub returns : goal.returns
returns c =
    on_ok_weaker c.draw_premise.result
    (λ last. joined c.args.page.now c.text.new.self c.draw_premise.new.page
    (plain (codes " says the conclusion") ∷ [])
    (premise_events c.args.naming.now.sig.now c.args.naming.now.names.now c.args.premise.now)
    c.in_ok-text.ensures last)
    c.draw_premise.ensures
