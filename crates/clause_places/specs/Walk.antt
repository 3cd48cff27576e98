-- What a walk along places comes to that looks for the one of an index.
use Rattle.std.specs.Prelude.{◌≡◌, ℕ, ◌+◌, List, ◌++◌, Option, Some, None, length, reverse, slice_get}
use Rattle.term_core.specs.Tree.{Tree}
use Rattle.clause_places.specs.Spots.{Spot}
use Rattle.clause_places.specs.declared.walk.Search.{Search}
use Rattle.clause_places.specs.declared.walk.Search.TheVariants.{Found, Left}

-- along spots: the place of the spot of the index, or so far is the index after the last spot
abbrev pub Finds : List Spot → ℕ → Search → Type 0
Finds ss k (Found place) = (s : Spot) × (slice_get ss k ≡ Some s) × (place ≡ s.place)
Finds ss k (Left left) = k ≡ length ss + left

-- along paths: the path of the index follows the old numbers, from its end on, or so far is
-- the index after the last path, and the old numbers are as they were
abbrev pub Passes : List (List ℕ × Tree) → ℕ → List ℕ → List ℕ → Option ℕ → Type 0
Passes ps k old new None =
    (p : List ℕ × Tree) × (slice_get ps k ≡ Some p) × (new ≡ old ++ reverse p.0)
Passes ps k old new (Some left) = (k ≡ length ps + left) × (new ≡ old)
