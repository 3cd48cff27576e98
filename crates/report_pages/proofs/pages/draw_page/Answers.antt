use Rattle.std.proofs.Common.{[], ◌++◌, refl, subst, sym}
use Rattle.std.specs.Prelude.{option_map}
use Rattle.std.proofs.lemmas.Result.{on_ok_weaker}
use Rattle.acceptance.specs.Accepting.{ClaimsAreAccepted}
use Rattle.page_core.specs.Events.{within}
use Rattle.page_core.specs.declared.parts.Part.TheVariants.{Document}
use Rattle.report_pages.specs.Claims.{HaveGoals}
use Rattle.report_pages.specs.Lists.{Draws}
use Rattle.report_pages.specs.ReportPages.{AreClaimsShown, IsGoalListShown, title_events}
use Rattle.report_pages.proofs.AcceptedClaims.{have_goals}
use Rattle.report_pages.proofs.Lists.{enclosed, joined}
use Rattle.report_pages.proofs.pages.draw_page.Goals as goal

pub draw_list-requires-clause-goals : goal.draw_list-requires-clause-goals
draw_list-requires-clause-goals g c =
    let above = g.O.TermOrder.above c.args.admitted.now.order in
    let report = c.args.report.now in
    subst (λ claims. HaveGoals c.admitted.inside.spec claims) (sym c.as_slice-claims.ensures)
    (subst (λ a. HaveGoals a.spec report.claims) (sym c.admitted.view_is)
    (have_goals above c.args.admitted.now.spec report.steps [] report.claims c.requires))

pub draw_sections-requires : goal.draw_sections-requires
draw_sections-requires g c =
    let above = g.O.TermOrder.above c.args.admitted.now.order in
    subst (λ claims. ClaimsAreAccepted above c.args.admitted.now.spec c.args.report.now.steps [] claims)
    (sym c.as_slice-claims.ensures) c.requires

pub returns : goal.returns
returns g c =
    let above = g.O.TermOrder.above c.args.admitted.now.order in
    let spec = c.args.admitted.now.spec in
    let asked = option_map (λ name. name.now) c.args.goal in
    let claims = c.args.report.now.claims in
    let title = title_events c.args.title.now in
    let list =
    subst (λ a. Draws c.draw_title.new.page c.draw_list.new.page (IsGoalListShown asked a.spec claims))
    c.admitted.view_is
    (subst
    (λ cs. Draws c.draw_title.new.page c.draw_list.new.page (IsGoalListShown asked c.admitted.inside.spec cs))
    c.as_slice-claims.ensures c.in_ok-draw_list.ensures) in
    let sections =
    subst
    (λ cs. Draws c.draw_list.new.page c.draw_sections.new.page
    (AreClaimsShown asked above spec c.args.report.now.steps cs))
    c.as_slice-claims.ensures c.in_ok-draw_sections.ensures in
    on_ok_weaker c.end.result
    (λ last. (
      within Document (title ++ (list.0 ++ sections.0)),
      (list.0, sections.0, list.1, sections.1, refl),
      enclosed Document c.args.page.now c.begin.new.self c.draw_sections.new.page c.end.new.self
          (title ++ (list.0 ++ sections.0)) c.in_ok-begin.ensures
          (joined c.begin.new.self c.draw_title.new.page c.draw_sections.new.page title (list.0 ++ sections.0)
          c.in_ok-draw_title.ensures
          (joined c.draw_title.new.page c.draw_list.new.page c.draw_sections.new.page list.0 sections.0 list.2
          sections.2)) last,
    ))
    c.end.ensures
