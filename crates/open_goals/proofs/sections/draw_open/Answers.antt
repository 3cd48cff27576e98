use Rattle.std.proofs.Common.{◌≡◌, ◌<◌, Some, refl, sym, ◌∙◌, ap, subst, length}
use Rattle.std.specs.Prelude.{slice_get}
use Rattle.std.proofs.lemmas.Option.{same_Some}
use Rattle.std.proofs.lemmas.Result.{on_ok_weaker}
use Rattle.page_core.specs.Pages.{after}
use Rattle.open_goals.specs.Words.{open_events}
use Rattle.open_goals.proofs.Listed.{listed}
use Rattle.open_goals.proofs.sections.draw_open.Goals as goal

pub returns : goal.returns
returns g c =
    let inside = c.admitted.inside.spec in
    let spec = c.args.admitted.now.spec in
    let budget = c.args.budget in
    let page = c.args.page.now in
    let drawn = c.draw_open_goal.new.page in
    let within = rw (← c.admitted.view_is) at c.requires.in_range in
    let read = c.index-goals-number.result in
    let starts = c.in_ok-starts.starts.items in
    let at : slice_get spec.goals c.args.number ≡ Some read =
    subst (λ a. slice_get a.spec.goals c.args.number ≡ Some read) c.admitted.view_is
    (listed inside.goals c.as_slice-goals.result.now c.args.number read c.as_slice-goals.ensures
    (subst (λ gs. c.args.number < length gs) (sym c.as_slice-goals.ensures) within)
    c.index-goals-number.is) in
    on_ok_weaker c.draw_open_goal.result
    (λ last it at_too. (
      open_events spec it budget starts,
      (starts, c.in_ok-starts.ensures it at_too, refl),
      subst (λ one. drawn ≡ after page (open_events spec one budget starts))
          (same_Some read it (sym at ∙ at_too))
          (subst (λ a. drawn ≡ after page (open_events a.spec read budget starts)) c.admitted.view_is
          (last ∙ ap (λ items. after page (open_events inside read budget items)) c.deref.ensures.value)),
    ))
    c.draw_open_goal.ensures
