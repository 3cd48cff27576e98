-- What events make of a page.
use Rattle.std.specs.Prelude.{ℕ, List, [], ◌∷◌, ◌++◌, Bool, true, false, if◌then◌else◌, codes}
use Rattle.page_core.specs.Events.{Event, begins, ends, text, link}
use Rattle.page_core.specs.Html.{escaped, opening, closing, link_html}
use Rattle.page_core.specs.PlainText.{line_begin, line_end, margin_within, margin_after}
use Rattle.page_core.specs.declared.parts.Anchor.{Anchor}
use Rattle.page_core.specs.declared.parts.Format.{Format}
use Rattle.page_core.specs.declared.parts.Format.TheVariants.{Html, Text}
use Rattle.page_core.specs.declared.parts.Part.{Part}
use Rattle.page_core.specs.declared.parts.Style.TheVariants.{Plain, Marked}

-- A page: what is written so far, how, whether a mark is open, and the margin of plain text.
pub record PageValue : Type 0 where
  pub text : List ℕ
  pub format : Format
  pub marked : Bool
  pub margin : List ℕ

abbrev pub blank : Format → PageValue
blank format = record { text = []; format = format; marked = false; margin = [] }

-- how each format shows a text, marks one, links one, and begins and ends a part
abbrev pub shown : Format → List ℕ → List ℕ
shown Html bytes = escaped bytes
shown Text bytes = bytes

abbrev pub mark_begin : Format → List ℕ
mark_begin Html = codes "<mark>"
mark_begin Text = codes "["

abbrev pub mark_end : Format → List ℕ
mark_end Html = codes "</mark>"
mark_end Text = codes "]"

abbrev pub linked : Format → Anchor → List ℕ → List ℕ
linked Html to bytes = link_html to bytes
linked Text to bytes = bytes

abbrev pub part_begin : Format → Part → List ℕ → List ℕ
part_begin Html part margin = opening part
part_begin Text part margin = line_begin part margin

abbrev pub part_end : Format → Part → List ℕ
part_end Html part = closing part
part_end Text part = line_end part

-- with more written
abbrev pub more : PageValue → List ℕ → PageValue
more page bytes = record page { text = page.text ++ bytes }

-- with a mark that isn't open opened, and with one that is open closed
abbrev pub with_mark : PageValue → PageValue
with_mark page =
    if page.marked then page else record page { text = page.text ++ mark_begin page.format; marked = true }

abbrev pub without_mark : PageValue → PageValue
without_mark page =
    if page.marked then record page { text = page.text ++ mark_end page.format; marked = false } else page

abbrev pub begun : Part → PageValue → PageValue
begun part page = record page {
  text = page.text ++ part_begin page.format part page.margin;
  margin = margin_within part page.margin;
}

abbrev pub ended : Part → PageValue → PageValue
ended part page = record page {
  text = page.text ++ part_end page.format part;
  margin = margin_after part page.margin;
}

-- Texts that are marked, one after the other, share a mark. Everything else ends it first.
unfoldable pub drawn : PageValue → Event → PageValue
drawn page (begins part) = begun part (without_mark page)
drawn page (ends part) = ended part (without_mark page)
drawn page (text Plain bytes) = let p = without_mark page in more p (shown p.format bytes)
drawn page (text Marked bytes) = let p = with_mark page in more p (shown p.format bytes)
drawn page (link to bytes) = let p = without_mark page in more p (linked p.format to bytes)

unfoldable pub after : PageValue → List Event → PageValue
after page [] = page
after page (event ∷ events) = after (drawn page event) events
