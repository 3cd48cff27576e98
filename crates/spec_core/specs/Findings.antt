-- A search for the first of several faults: tests in a stated order, what they find first, and when they find nothing.
use Rattle.std.specs.Prelude.{◌≡◌, ◌⊎◌, List, [], ◌∷◌, ◌++◌}

-- the tests that are made, in their order; each with the fault that it tells, and with what it finds
pub data Search (F : Type 0) : Type 1 where
  nothing : Search F
  test : F → Type 0 → Search F
  then : Search F → Search F → Search F

-- no test finds something
abbrev pub Clean : {F : Type 0} → Search F → Type 0
Clean nothing = Unit {0}
Clean (test fault Found) = Found → ⊥
Clean (then s t) = Clean s × Clean t

-- the first test that finds something tells this fault
abbrev pub First : {F : Type 0} → Search F → F → Type 0
First nothing f = ⊥
First (test fault Found) f = Found × (f ≡ fault)
First (then s t) f = First s f ⊎ (Clean s × First t f)

-- the same search for each of a list, in order
abbrev pub each : {F A : Type 0} → (A → Search F) → List A → Search F
each f [] = nothing
each f (x ∷ xs) = then (f x) (each f xs)

-- the same search for each of a list, in order, with those before it
abbrev pub each_after : {F A : Type 0} → (List A → A → Search F) → List A → List A → Search F
each_after f before [] = nothing
each_after f before (x ∷ xs) = then (f before x) (each_after f (before ++ x ∷ []) xs)
