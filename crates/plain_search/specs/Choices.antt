-- The step of a later node in the block of a plain proof: the first of six candidates that the table
-- of steps defines at the node.
use Rattle.std.specs.Prelude.{◌≡◌, ◌⊎◌, ℕ, List, Bool, true, false, Some, Ok, map, slice_get}
use Rattle.term_core.specs.Tree.{Tree}
use Rattle.spec_core.specs.declared.records.Equation.{Equation}
use Rattle.spec_core.specs.declared.records.Spec.{Spec}
use Rattle.clause_core.specs.declared.clauses.Clause.{Clause}
use Rattle.clause_core.specs.declared.steps.Place.{Place}
use Rattle.clause_core.specs.declared.steps.Step.{Step}
use Rattle.clause_core.specs.declared.steps.Step.TheVariants.{Trivial, Subsume, Rule, Decompose}
use Rattle.clause_core.specs.declared.answers.Children.{Children}
use Rattle.clause_core.specs.ClauseInstances.{equation_instance}
use Rattle.clause_core.specs.Equations.{swapped}
use Rattle.clause_core.specs.Places.{side}
use Rattle.clause_core.specs.Says.{Says}
use Rattle.clause_core.specs.Steps.{row_of}
use Rattle.normalization.specs.FirstUses.{IsFirstUse}

-- the place in the left side of the first conclusion, if true, or in its right side
abbrev pub place_in : Bool → List ℕ → Place
place_in left path = record { conclusion = true; number = 1; left = left; path = path }

-- the equations with these terms for their variables
abbrev pub with_terms : List Tree → List Equation → List Equation
with_terms terms es = map (equation_instance (map (λ (t : Tree). Some t) terms)) es

-- The candidates. The conclusion has identical sides
abbrev pub IsTrivial : Step → Type 0
IsTrivial step = step ≡ Trivial 1

-- the leftmost-innermost use of an unguarded rule in the left side of the conclusion, if true, or
-- in its right side
abbrev pub IsUse : Spec → Clause → Bool → Step → Type 0
IsUse spec c left step =
    (e : Equation) × (path : List ℕ) × (number : ℕ) × (made : Tree)
    × (slice_get c.conclusions 0 ≡ Some e)
    × IsFirstUse spec (side left e) path number made
    × (step ≡ Rule (place_in left path) number)

-- the sides have the same constructor as head
abbrev pub IsDecomposition : Step → Type 0
IsDecomposition step = step ≡ Decompose true 1

-- by these terms the conclusions of the first node become the equations of the list
abbrev pub IsReference : Clause → List Equation → Step → Type 0
IsReference start es step =
    (terms : List Tree) × (with_terms terms start.conclusions ≡ es) × (step ≡ Subsume 0 terms)

module _
    (above : Tree → Tree → Type 0) (spec : Spec) (usable : ℕ → Type 0) (start : Clause)
    (nodes : List Clause) (c : Clause) where
  -- the step is such a one, and the table says what it makes
  abbrev pub IsPossible : (Step → Type 0) → Step → Type 0
  IsPossible IsOne step =
      IsOne step × (made : Children) × Says above c nodes (row_of spec usable nodes c step)
      (Ok made)

  -- the first possible step: such a one, or if none is possible one of the others
  abbrev pub first_of : (Step → Type 0) → (Step → Type 0) → Step → Type 0
  first_of IsOne IsOther step =
      IsPossible IsOne step ⊎ (((s : Step) → IsPossible IsOne s → ⊥) × IsOther step)

  -- the step that is chosen at the clause, over the nodes so far
  abbrev pub IsChosen : Step → Type 0
  IsChosen step =
      first_of IsTrivial (first_of (IsUse spec c true) (first_of (IsUse spec c false)
      (first_of IsDecomposition (first_of (IsReference start c.conclusions)
      (IsPossible (IsReference start (map swapped c.conclusions))))))) step
