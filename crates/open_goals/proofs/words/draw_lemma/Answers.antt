use Rattle.std.proofs.Common.{[], ◌∷◌, ap, ◌∙◌}
use Rattle.std.specs.Prelude.{codes, slice_get}
use Rattle.std.proofs.lemmas.Result.{on_ok_weaker}
use Rattle.page_core.specs.Pages.{after}
use Rattle.proof_words.specs.ListEvents.{plain}
use Rattle.proof_words.proofs.Joined.{joined}
use Rattle.open_goals.specs.Words.{name_of}
use Rattle.open_goals.proofs.words.draw_lemma.Goals as goal

pub returns : goal.returns
returns c =
    let p = c.text.new.self in
    let name = ap (λ bytes. after p (plain bytes ∷ [])) c.goal_name.ensures in
    on_ok_weaker c.text-2.result
    (λ last. joined c.args.page.now p c.text-2.new.self (plain (codes "lemma ") ∷ [])
    (plain (name_of (slice_get c.args.goals.now c.args.number)) ∷ []) c.in_ok-text.ensures (last ∙ name))
    c.text-2.ensures
