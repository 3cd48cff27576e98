-- A list without one of its items.
use Rattle.std.specs.Prelude.{◌≡◌, ℕ, ◌<◌, List, length, remove, slice_index_or}

-- the item is taken out of its place
abbrev pub IsTaken : {X : Type 0} → List X → List X → X → Type 0
IsTaken old new x =
    (i : ℕ) × (i < length old) × (x ≡ slice_index_or old i x) × (new ≡ remove old i)
