use Rattle.std.proofs.Common.{[], ◌∷◌, ◌++◌}
use Rattle.std.specs.Prelude.{codes}
use Rattle.std.proofs.lemmas.Result.{on_ok_weaker}
use Rattle.proof_words.specs.ListEvents.{plain}
use Rattle.proof_words.proofs.Joined.{joined}
use Rattle.open_goals.specs.Words.{term_events}
use Rattle.open_goals.proofs.words.draw_sides.Goals as goal

pub returns : goal.returns
returns c =
    let sig = c.args.naming.now.sig.now in
    let names = c.args.naming.now.names.now in
    let term = term_events sig names c.args.term.now in
    let other = term_events sig names c.args.other.now in
    let behind = plain c.args.behind.now ∷ [] in
    let end = c.text-3.new.self in
    on_ok_weaker c.text-3.result
    (λ last. joined c.args.page.now c.text.new.self end (plain (codes " fits at ") ∷ [])
    (term ++ plain c.args.between.now ∷ (other ++ behind)) c.in_ok-text.ensures
    (joined c.text.new.self c.draw_term.new.page end term (plain c.args.between.now ∷ (other ++ behind))
    c.in_ok-draw_term.ensures
    (joined c.draw_term.new.page c.text-2.new.self end (plain c.args.between.now ∷ []) (other ++ behind)
    c.in_ok-text-2.ensures
    (joined c.text-2.new.self c.draw_term-2.new.page end other behind c.in_ok-draw_term-2.ensures last))))
    c.text-3.ensures
