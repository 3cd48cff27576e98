use Rattle.std.proofs.Common.{ℕ, ◌∙◌, ap, ap₂, Bool, List}
use Rattle.std.specs.Prelude.{option_map}
use Rattle.term_core.proofs.Items.{if_ok_map}
use Rattle.spec_order.proofs.OwnOrders.{by_own_order}
use Rattle.page_core.specs.Pages.{after, blank}
use Rattle.page_core.specs.declared.parts.Format.TheVariants.{Text}
use Rattle.report_pages.specs.Lists.{Draws}
use Rattle.report_pages.specs.ReportPages.{title_events}
use Rattle.report_pages.proofs.Lists.{joined}
use Rattle.open_pages.specs.OpenPages.{IsOpenPage, text_or_line}
use Rattle.open_pages.specs.Sections.{AreSections}
use Rattle.open_pages.proofs.pages.open_page.Goals as goal

pub returns : goal.returns
returns c =
    let spec = c.args.admitted.now.spec in
    let title = c.args.title.now in
    let asked = option_map (λ name. name.now) c.args.asked in
    let search_bounds = c.args.search in
    let claims = c.args.claims.now in
    let titled = c.draw_title.new.page in
    let page = c.draw_sections.new.page in
    let drawn =
    by_own_order (λ above. Draws titled page (AreSections above spec search_bounds asked claims)) spec
    c.requires.ordered c.in_ok-draw_sections.ensures in
    let begun = c.in_ok-draw_title.ensures ∙ ap (λ p. after p (title_events title)) c.new-page.ensures in
    let whole = joined (blank Text) titled page (title_events title) drawn.0 begun drawn.2 in
    let text = c.into_bytes.ensures ∙ ap (λ p. p.text) whole in
    if_ok_map c.text_or_line.result _ (λ made. IsOpenPage spec title asked search_bounds claims made.items)
    (λ made is. (
      drawn.0,
      drawn.1,
      is ∙ ap₂ (λ (shown : Bool) (t : List ℕ). text_or_line asked shown t) c.some_shown.ensures text,
    ))
    c.text_or_line.ensures
