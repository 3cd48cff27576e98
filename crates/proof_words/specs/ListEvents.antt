-- Lists as texts of a page, one item after the other.
use Rattle.std.specs.Prelude.{ℕ, ◌+◌, ◌==◌, List, [], ◌∷◌, ◌++◌, if◌then◌else◌}
use Rattle.page_core.specs.Events.{Event, text}
use Rattle.page_core.specs.declared.parts.Style.TheVariants.{Plain}

-- a text that isn't marked
abbrev pub plain : List ℕ → Event
plain bytes = text Plain bytes

-- the events of each item and its place, from this place on
abbrev pub each_from : {X : Type 0} → (ℕ → X → List Event) → ℕ → List X → List Event
each_from item place [] = []
each_from item place (x ∷ xs) = item place x ++ each_from item (place + 1) xs

-- what comes before the item at a place: nothing before the first one
abbrev pub separation : List ℕ → ℕ → List Event
separation separator place = if place == 0 then [] else (plain separator ∷ [])

-- the events of each item and its place, with a text between them, from this place on
abbrev pub separated_from :
    {X : Type 0} → List ℕ → (ℕ → X → List Event) → ℕ → List X → List Event
separated_from separator item place xs =
    each_from (λ n x. separation separator n ++ item n x) place xs

abbrev pub separated : {X : Type 0} → List ℕ → (ℕ → X → List Event) → List X → List Event
separated separator item xs = separated_from separator item 0 xs
