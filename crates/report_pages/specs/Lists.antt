-- What is shown of the items of a list.
use Rattle.std.specs.Prelude.{◌≡◌, List, [], ◌∷◌, ◌++◌, Bool, true, false}
use Rattle.page_core.specs.Events.{Event}
use Rattle.page_core.specs.Pages.{PageValue, after}

-- what comes to a page are events of which this holds
abbrev pub Draws : PageValue → PageValue → (List Event → Type 0) → Type 0
Draws old new P = (events : List Event) × P events × (new ≡ after old events)

-- of each item, after the items before it, these events are shown, one after the other
abbrev pub AreShown : {X : Type 0} → (List X → X → List Event → Type 0) → List X → List X → List Event → Type 0
AreShown P before [] events = events ≡ []
AreShown P before (x ∷ xs) events =
    (first : List Event) × (rest : List Event) × P before x first × AreShown P (before ++ x ∷ []) xs rest
    × (events ≡ first ++ rest)

-- these events are shown if true, and nothing if false
abbrev pub Where : Bool → (List Event → Type 0) → List Event → Type 0
Where true P events = P events
Where false P events = events ≡ []
