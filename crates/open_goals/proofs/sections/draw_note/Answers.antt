use Rattle.std.proofs.Common.{[], ◌∷◌, ◌++◌, ap, ◌∙◌}
use Rattle.std.proofs.lemmas.Result.{on_ok_weaker}
use Rattle.page_core.specs.Pages.{after}
use Rattle.page_core.specs.declared.parts.Part.TheVariants.{Note}
use Rattle.proof_words.specs.ListEvents.{plain}
use Rattle.proof_words.proofs.Joined.{joined}
use Rattle.open_goals.specs.Words.{further, tried_events}
use Rattle.open_goals.proofs.Enclosed.{enclosed}
use Rattle.open_goals.proofs.sections.draw_note.Goals as goal

pub returns : goal.returns
returns c =
    let budget = c.args.budget in
    let more = plain (further budget.cut) ∷ [] in
    let p = c.begin.new.self in
    let q = c.draw_tried.new.page in
    let r = c.text.new.self in
    let said = ap (λ bytes. after q (plain bytes ∷ [])) c.further.ensures in
    on_ok_weaker c.end.result
    (λ last. enclosed Note c.args.page.now p r c.end.new.self (tried_events budget ++ more)
    c.in_ok-begin.ensures
    (joined p q r (tried_events budget) more c.in_ok-draw_tried.ensures (c.in_ok-text.ensures ∙ said)) last)
    c.end.ensures
