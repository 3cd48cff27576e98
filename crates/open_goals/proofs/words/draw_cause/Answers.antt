use Rattle.std.proofs.Common.{◌≡◌, sym, subst}
use Rattle.std.specs.Prelude.{OnOk}
use Rattle.page_core.specs.Pages.{after}
use Rattle.open_goals.specs.Words.{cause_events}
use Rattle.open_goals.proofs.words.draw_cause.Goals as goal

pub returns-in-NoStep-default : goal.returns-in-NoStep-default
returns-in-NoStep-default c =
    let naming = c.args.naming.now in
    subst
    (λ cause. OnOk c.text.result (c.text.new.self ≡ after c.args.page.now
    (cause_events naming.sig.now naming.names.now cause c.args.next)))
    (sym c.in-NoStep-default.is-0) c.text.ensures
