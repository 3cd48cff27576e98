use Rattle.std.proofs.Common.{◌≡◌, ◌++◌, refl, subst}
use Rattle.std.proofs.lemmas.Result.{on_ok_weaker}
use Rattle.page_core.specs.Events.{within}
use Rattle.page_core.specs.Pages.{after}
use Rattle.page_core.specs.declared.parts.Part.TheVariants.{Goal}
use Rattle.report_pages.specs.Claims.{heading_events}
use Rattle.report_pages.proofs.Lists.{enclosed, joined}
use Rattle.report_pages.proofs.claims.draw_section.Goals as goal

pub returns : goal.returns
returns g c =
    let at = c.args.at.now in
    let heading = heading_events c.args.admitted.now.spec.sig at.goal.now in
    let headed = subst (λ a. c.draw_heading.new.page ≡ after c.begin.new.self (heading_events a.spec.sig at.goal.now))
    c.admitted.view_is c.in_ok-draw_heading.ensures in
    on_ok_weaker c.end.result
    (λ last before are.
    let body = c.in_ok-draw_outcome.ensures before are in (
      within (Goal at.number) (heading ++ body.0),
      (body.0, body.1, refl),
      enclosed (Goal at.number) c.args.page.now c.begin.new.self c.draw_outcome.new.page c.end.new.self
          (heading ++ body.0) c.in_ok-begin.ensures
          (joined c.begin.new.self c.draw_heading.new.page c.draw_outcome.new.page heading body.0 headed body.2) last,
    ))
    c.end.ensures
