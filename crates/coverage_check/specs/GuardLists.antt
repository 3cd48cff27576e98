-- Guard lists without the numbers of their rules.
use Rattle.std.specs.Prelude.{ℕ, List, [], ◌∷◌, Bool, if◌then◌else◌, map}
use Rattle.std.specs.Borrow.{Bor}
use Rattle.spec_core.specs.declared.records.Guard.{Guard}
use Rattle.spec_core.specs.Groups.{Whole, bool_same}

-- the lists that the references point to
abbrev pub lists_of : List (Bor (List Guard)) → List (List Guard)
lists_of refs = map (λ (r : Bor (List Guard)). r.now) refs

-- the lists without their numbers
abbrev pub unnumbered : List (ℕ × List Guard) → List (List Guard)
unnumbered ms = map (λ (m : ℕ × List Guard). m.1) ms

-- the lists form a complete decision tree, whatever the numbers of their rules
abbrev pub AreWhole : List (List Guard) → Type 0
AreWhole lists = Whole (map (λ (gs : List Guard). (0, gs)) lists)

-- before other lists, the rest of one that begins by wanting this Boolean
abbrev pub rest_before : Bool → List Guard → List (List Guard) → List (List Guard)
rest_before wanted [] lists = lists
rest_before wanted (g ∷ gs) lists = if bool_same wanted g.wanted then gs ∷ lists else lists

-- of the lists that begin by wanting this Boolean, the rests
abbrev pub rests_wanting : Bool → List (List Guard) → List (List Guard)
rests_wanting wanted [] = []
rests_wanting wanted (list ∷ lists) = rest_before wanted list (rests_wanting wanted lists)
