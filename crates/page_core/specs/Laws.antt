-- What holds of all pages.
use Rattle.std.specs.Prelude.{◌≡◌, ℕ, List, ◌++◌}
use Rattle.page_core.specs.Events.{Event, within, IsBalanced}
use Rattle.page_core.specs.Head.{head, tail}
use Rattle.page_core.specs.Markup.{IsMarkup}
use Rattle.page_core.specs.Pages.{PageValue, blank, after}
use Rattle.page_core.specs.declared.parts.Format.TheVariants.{Html}
use Rattle.page_core.specs.declared.parts.Part.TheVariants.{Document}

-- to draw two lists of events, one after the other, is to draw them as one
abbrev pub Composes : Type 0
Composes =
    (page : PageValue) (events others : List Event)
    → after (after page events) others ≡ after page (events ++ others)

-- a document of balanced events is markup between a fixed head and a fixed tail
abbrev pub IsWellFormed : Type 0
IsWellFormed =
    (events : List Event) → IsBalanced events
    → (body : List ℕ) × IsMarkup body × ((after (blank Html) (within Document events)).text ≡ head ++ (body ++ tail))
