-- The text on the goals that claims leave open.
use Rattle.std.specs.Prelude.{◌≡◌, ℕ, ◌++◌, Bool, true, false, List, Option, Some, None, codes}
use Rattle.std.specs.List.{list_any}
use Rattle.spec_core.specs.declared.records.Spec.{Spec}
use Rattle.spec_order.specs.Orders.{above_of}
use Rattle.clause_core.specs.declared.reports.Claim.{Claim}
use Rattle.command_line.specs.declared.bounds.SearchBounds.{SearchBounds}
use Rattle.page_core.specs.Events.{Event}
use Rattle.page_core.specs.Pages.{after, blank}
use Rattle.page_core.specs.declared.parts.Format.TheVariants.{Text}
use Rattle.report_pages.specs.ReportPages.{title_events}
use Rattle.open_pages.specs.Sections.{AreSections, is_shown}

-- the line if no goal that is asked for is open
abbrev pub closed_line : Option (List ℕ) → List ℕ
closed_line None = codes "every goal is proved or refuted\n"
closed_line (Some name) = codes "the goal is proved or refuted\n"

-- the text if something is shown, or the line that nothing is
abbrev pub text_or_line : Option (List ℕ) → Bool → List ℕ → List ℕ
text_or_line asked true text = text
text_or_line asked false text = closed_line asked

-- the text of a title and sections
abbrev pub sections_text : List ℕ → List Event → List ℕ
sections_text title sections = (after (blank Text) (title_events title ++ sections)).text

-- the text on the goals that the claims leave open, by the order of the specification
abbrev pub IsOpenPage : Spec → List ℕ → Option (List ℕ) → SearchBounds → List Claim → List ℕ → Type 0
IsOpenPage spec title asked search claims text =
    (sections : List Event) × AreSections (above_of spec) spec search asked claims sections
    × (text ≡ text_or_line asked (list_any (is_shown asked) claims) (sections_text title sections))
