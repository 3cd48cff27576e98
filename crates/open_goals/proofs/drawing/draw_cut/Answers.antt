use Rattle.std.proofs.Common.{◌≡◌, sym, subst}
use Rattle.std.specs.Prelude.{OnOk}
use Rattle.page_core.specs.Pages.{after}
use Rattle.open_goals.specs.Words.{cut_events}
use Rattle.open_goals.proofs.drawing.draw_cut.Goals as goal

pub returns-then-cut : goal.returns-then-cut
returns-then-cut c =
    subst (λ b. OnOk c.text.result (c.text.new.self ≡ after c.args.page.now (cut_events b))) (sym c.if-cut.true)
    c.text.ensures
