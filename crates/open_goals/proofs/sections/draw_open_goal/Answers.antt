use Rattle.std.proofs.Common.{◌++◌}
use Rattle.std.proofs.lemmas.Result.{on_ok_weaker}
use Rattle.proof_words.proofs.Joined.{joined}
use Rattle.open_goals.specs.Words.{heading_events, open_note, starts_events}
use Rattle.open_goals.proofs.sections.draw_open_goal.Goals as goal

pub returns : goal.returns
returns c =
    let spec = c.args.spec.now in
    let goal = c.args.goal.now in
    let starts = starts_events spec goal c.args.starts.now in
    let note = open_note c.args.budget in
    let p = c.draw_heading.new.page in
    let q = c.draw_note.new.page in
    let end = c.draw_starts.new.page in
    on_ok_weaker c.draw_starts.result
    (λ last. joined c.args.page.now p end (heading_events spec.sig goal) (note ++ starts)
    c.in_ok-draw_heading.ensures (joined p q end note starts c.in_ok-draw_note.ensures last))
    c.draw_starts.ensures
