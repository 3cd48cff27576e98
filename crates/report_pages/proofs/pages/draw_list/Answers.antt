use Rattle.std.proofs.Common.{◌≡◌, [], refl, sym, subst}
use Rattle.std.specs.Prelude.{option_map}
use Rattle.std.proofs.lemmas.Result.{on_ok_weaker}
use Rattle.page_core.specs.Events.{within}
use Rattle.page_core.specs.declared.parts.Part.TheVariants.{Goals}
use Rattle.page_core.proofs.Pages.{after-none}
use Rattle.report_pages.specs.ReportPages.{goal_list}
use Rattle.report_pages.proofs.AcceptedClaims.{none_asked}
use Rattle.report_pages.proofs.Lists.{enclosed}
use Rattle.report_pages.proofs.pages.draw_list.Goals as goal

pub returns-then-not-some_asked : goal.returns-then-not-some_asked
returns-then-not-some_asked c =
    let asked = option_map (λ name. name.now) c.args.asked in
    let none = sym c.if-not-some_asked.ensures in
    let empty = subst (λ b. [] ≡ goal_list b []) (sym none) refl in (
      [],
      ([], none_asked asked c.args.spec.now [] c.args.claims.now none, empty),
      sym (after-none c.args.page.now),
    )

pub returns : goal.returns
returns c =
    let lines = c.in_ok-draw_lines.ensures in
    on_ok_weaker c.end.result
    (λ last. (
      within Goals lines.0,
      (lines.0, lines.1, subst (λ b. within Goals lines.0 ≡ goal_list b lines.0) c.if-not-some_asked.ensures refl),
      enclosed Goals c.args.page.now c.begin.new.self c.draw_lines.new.page c.end.new.self lines.0
          c.in_ok-begin.ensures lines.2 last,
    ))
    c.end.ensures
