-- What a refusal tells.
use Rattle.std.specs.Prelude.{◌≡◌, ℕ, List}
use Rattle.accepted_spec.specs.declared.refusals.Refusal.{Refusal}
use Rattle.accepted_spec.specs.declared.refusals.Refusal.TheVariants.{Line, OutOfMemory}

-- the refusal's line is one of these; want of memory has none
abbrev pub Tells : (List ℕ → Type 0) → Refusal → Type 0
Tells IsLine (Line line) = IsLine line.items
Tells IsLine OutOfMemory = Unit {0}

-- the line that a refusal has
abbrev pub IsLineOf : Refusal → List ℕ → Type 0
IsLineOf (Line line) text = text ≡ line.items
IsLineOf OutOfMemory text = ⊥
