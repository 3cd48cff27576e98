-- Where balanced events are drawn, what is written is markup, up to a mark that is still open.
use Rattle.std.proofs.Common.{◌≡◌, ◌≢◌, ℕ, List, [], ◌∷◌, ◌++◌, Bool, true, false}
use Rattle.std.proofs.Common.{refl, sym, subst, ap, ◌∙◌, append_assoc, append-nil}
use Rattle.std.specs.Prelude.{codes}
use Rattle.page_core.specs.Events.{Event, ends, text, within}
use Rattle.page_core.specs.Events.{IsBalanced, nothing, a_text, a_link, a_part, joined as both}
use Rattle.page_core.specs.Head.{head, tail}
use Rattle.page_core.specs.Html.{escaped, opening, closing, link_html}
use Rattle.page_core.specs.Markup.{IsMarkup, plain, joined}
use Rattle.page_core.specs.PlainText.{margin_within, margin_after}
use Rattle.page_core.specs.Pages.{PageValue, blank, drawn, after, without_mark, more, shown, linked, begun, ended}
use Rattle.page_core.proofs.Markups.{escaped_markup, link_markup, mark_markup, part_markup}
use Rattle.page_core.proofs.Pages.{after-after}
use Rattle.page_core.specs.declared.parts.Anchor.{Anchor}
use Rattle.page_core.specs.declared.parts.Format.TheVariants.{Html}
use Rattle.page_core.specs.declared.parts.Part.{Part}
use Rattle.page_core.specs.declared.parts.Part.TheVariants.{Document}
use Rattle.page_core.specs.declared.parts.Style.{Style}
use Rattle.page_core.specs.declared.parts.Style.TheVariants.{Plain, Marked}

abbrev page_of : List ℕ → Bool → List ℕ → PageValue
page_of bytes marked margin = record { text = bytes; format = Html; marked = marked; margin = margin }

-- a page without an open mark that has markup after what it began with
data IsClosed : List ℕ → PageValue → Type 0 where
  closed : (start inner margin : List ℕ) → IsMarkup inner → IsClosed start (page_of (start ++ inner) false margin)

-- such a page, or one with an open mark
data IsDrawn : List ℕ → PageValue → Type 0 where
  without : (start : List ℕ) (page : PageValue) → IsClosed start page → IsDrawn start page
  marked : (start inner mark margin : List ℕ) → IsMarkup inner → IsMarkup mark
      → IsDrawn start (page_of (start ++ (inner ++ (codes "<mark>" ++ mark))) true margin)

closed_by : (start inner margin bytes : List ℕ) → IsMarkup inner → start ++ inner ≡ bytes
    → IsClosed start (page_of bytes false margin)
closed_by start inner margin bytes markup is =
    subst (λ b. IsClosed start (page_of b false margin)) is (closed start inner margin markup)

marked_by : (start inner mark margin bytes : List ℕ) → IsMarkup inner → IsMarkup mark
    → start ++ (inner ++ (codes "<mark>" ++ mark)) ≡ bytes → IsDrawn start (page_of bytes true margin)
marked_by start inner mark margin bytes markup shows is =
    subst (λ b. IsDrawn start (page_of b true margin)) is (marked start inner mark margin markup shows)

-- where a mark is closed
closes : (start : List ℕ) (page : PageValue) → IsDrawn start page → IsClosed start (without_mark page)
closes start page (without _ _ (closed _ inner margin markup)) = closed start inner margin markup
closes start page (marked _ inner mark margin markup shows) =
    closed_by start (inner ++ (codes "<mark>" ++ (mark ++ codes "</mark>"))) margin
    ((start ++ (inner ++ (codes "<mark>" ++ mark))) ++ codes "</mark>")
    (joined markup (mark_markup mark shows)) (simp append_assoc refl)

-- where more markup is written
writes : (start bytes : List ℕ) (page : PageValue) → IsClosed start page → IsMarkup bytes
    → IsClosed start (more page bytes)
writes start bytes page (closed _ inner margin markup) other =
    closed_by start (inner ++ bytes) margin ((start ++ inner) ++ bytes) (joined markup other)
    (sym (append_assoc start inner bytes))

draws_plain : (start bytes : List ℕ) (page : PageValue) → IsClosed start page
    → IsClosed start (more page (shown page.format bytes))
draws_plain start bytes page (closed _ inner margin markup) =
    writes start (escaped bytes) _ (closed start inner margin markup) (escaped_markup bytes)

draws_marked : (start bytes : List ℕ) (page : PageValue) → IsDrawn start page
    → IsDrawn start (drawn page (text Marked bytes))
unfolding drawn
draws_marked start bytes page (without _ _ (closed _ inner margin markup)) =
    marked_by start inner (escaped bytes) margin (((start ++ inner) ++ codes "<mark>") ++ escaped bytes) markup
    (escaped_markup bytes) (simp append_assoc refl)
draws_marked start bytes page (marked _ inner mark margin markup shows) =
    marked_by start inner (mark ++ escaped bytes) margin
    ((start ++ (inner ++ (codes "<mark>" ++ mark))) ++ escaped bytes) markup
    (joined shows (escaped_markup bytes)) (simp append_assoc refl)

draws_text : (start : List ℕ) (page : PageValue) (style : Style) (bytes : List ℕ) → IsDrawn start page
    → IsDrawn start (drawn page (text style bytes))
unfolding drawn
draws_text start page Plain bytes draws =
    without start _ (draws_plain start bytes (without_mark page) (closes start page draws))
draws_text start page Marked bytes draws = draws_marked start bytes page draws

draws_link : (start bytes : List ℕ) (page : PageValue) (to : Anchor) → IsClosed start page
    → IsClosed start (more page (linked page.format to bytes))
draws_link start bytes page to (closed _ inner margin markup) =
    writes start (link_html to bytes) _ (closed start inner margin markup) (link_markup to bytes)

-- where a part begins, and where it ends with markup between the two
begins_part : (start inner margin : List ℕ) (part : Part)
    → IsClosed ((start ++ inner) ++ opening part) (begun part (page_of (start ++ inner) false margin))
begins_part start inner margin part =
    closed_by ((start ++ inner) ++ opening part) [] (margin_within part margin) ((start ++ inner) ++ opening part)
    (plain [] tt) (append-nil ((start ++ inner) ++ opening part))

ends_part : (start inner : List ℕ) (part : Part) (page : PageValue) → part ≢ Document → IsMarkup inner
    → IsClosed ((start ++ inner) ++ opening part) page → IsClosed start (ended part page)
ends_part start inner part page other markup (closed _ body margin shows) =
    closed_by start (inner ++ (opening part ++ (body ++ closing part))) (margin_after part margin)
    ((((start ++ inner) ++ opening part) ++ body) ++ closing part)
    (joined markup (part_markup part body other shows)) (simp append_assoc refl)

KeepsDrawn : List Event → Type 0
KeepsDrawn events = (start : List ℕ) (page : PageValue) → IsDrawn start page → IsDrawn start (after page events)

encloses : (start : List ℕ) (page : PageValue) (part : Part) (body : List Event) → part ≢ Document
    → IsClosed start page → KeepsDrawn body → IsClosed start (ended part (without_mark (after (begun part page) body)))
unfolding KeepsDrawn
encloses start page part body other (closed _ inner margin markup) keeps =
    let before = begun part (page_of (start ++ inner) false margin) in
    let from = (start ++ inner) ++ opening part in
    let draws = keeps from before (without from before (begins_part start inner margin part)) in
    ends_part start inner part (without_mark (after before body)) other markup (closes from (after before body) draws)

within_is : (page : PageValue) (part : Part) (body : List Event)
    → after page (within part body) ≡ ended part (without_mark (after (begun part (without_mark page)) body))
unfolding after drawn
within_is page part body = sym (after-after (begun part (without_mark page)) body (ends part ∷ []))

keeps_drawn : (events : List Event) → IsBalanced events → KeepsDrawn events
unfolding KeepsDrawn after drawn
keeps_drawn _ nothing start page draws = draws
keeps_drawn _ (a_text style bytes) start page draws = draws_text start page style bytes draws
keeps_drawn _ (a_link to bytes) start page draws =
    without start _ (draws_link start bytes (without_mark page) to (closes start page draws))
keeps_drawn _ (a_part {body} part other balanced) start page draws =
    let whole = encloses start (without_mark page) part body other (closes start page draws)
    (keeps_drawn body balanced) in
    without start _ (subst (IsClosed start) (sym (within_is page part body)) whole)
keeps_drawn _ (both {events} {others} first second) start page draws =
    let all = keeps_drawn others second start (after page events) (keeps_drawn events first start page draws) in
    subst (IsDrawn start) (after-after page events others) all

ends_document : (page : PageValue) → IsClosed head page
    → (body : List ℕ) × IsMarkup body × ((ended Document page).text ≡ head ++ (body ++ tail))
ends_document page (closed _ inner margin markup) = (inner, markup, append_assoc head inner tail)

pub document_markup : (events : List Event) → IsBalanced events
    → (body : List ℕ) × IsMarkup body × ((after (blank Html) (within Document events)).text ≡ head ++ (body ++ tail))
unfolding KeepsDrawn
document_markup events balanced =
    let first = page_of head false [] in
    let begins = without head first (closed_by head [] [] head (plain [] tt) (append-nil head)) in
    let draws = keeps_drawn events balanced head first begins in
    let whole = ends_document (without_mark (after first events)) (closes head (after first events) draws) in
    (whole.0, whole.1, ap (λ page. page.text) (within_is (blank Html) Document events) ∙ whole.2)
