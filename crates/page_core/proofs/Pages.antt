-- Lists of events compose. To prove what a function draws, list `drawing`.
use Rattle.std.proofs.Common.{◌≡◌, List, [], ◌∷◌, ◌++◌, refl}
use Rattle.page_core.specs.Events.{Event}
use Rattle.page_core.specs.Pages.{PageValue, after, drawn}

pub after-none : (page : PageValue) → after page [] ≡ page
unfolding after
after-none page = refl

pub after-after : (page : PageValue) (events others : List Event)
    → after (after page events) others ≡ after page (events ++ others)
unfolding after
after-after page [] others = refl
after-after page (event ∷ events) others = after-after (drawn page event) events others

pub ruleset drawing = (after-none, after-after)
