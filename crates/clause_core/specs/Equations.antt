-- Equations: as written or swapped, in a list, and with identical sides.
use Rattle.std.specs.Prelude.{◌≡◌, ◌⊎◌, List, [], ◌∷◌}
use Rattle.spec_core.specs.declared.records.Equation.{Equation}

abbrev pub swapped : Equation → Equation
swapped e = record { left = e.right; right = e.left }

-- the second equation is the first one, as written or with its sides swapped
abbrev pub IsEither : Equation → Equation → Type 0
IsEither e d = (d ≡ e) ⊎ (d ≡ swapped e)

-- the list has the equation, as written or with its sides swapped
abbrev pub Among : Equation → List Equation → Type 0
Among e [] = ⊥
Among e (d ∷ ds) = IsEither e d ⊎ Among e ds

-- both sides are one term
abbrev pub IsIdentity : Equation → Type 0
IsIdentity e = e.left ≡ e.right
