-- Where the steps of a block are refused.
use Rattle.std.specs.Prelude.{◌≡◌, ◌⊎◌, ℕ, ◌<◌, List, [], ◌∷◌, Some, None, Err, take, length, slice_get}
use Rattle.term_core.specs.Tree.{Tree}
use Rattle.spec_core.specs.declared.records.Spec.{Spec}
use Rattle.clause_core.specs.declared.clauses.Clause.{Clause}
use Rattle.clause_core.specs.declared.steps.Step.{Step}
use Rattle.clause_core.specs.declared.answers.Children.{Children}
use Rattle.clause_core.specs.declared.answers.Why.{Why}
use Rattle.clause_core.specs.declared.answers.Why.TheVariants.{NoSuchNode}
use Rattle.clause_core.specs.Says.{Says}
use Rattle.clause_core.specs.Steps.{row_of}
use Rattle.acceptance.specs.Strict.{NodeIsAllowed}
use Rattle.acceptance.specs.Blocks.{nodes_of, StepsMake}

module _ (above : Tree → Tree → Type 0) (spec : Spec) (usable : ℕ → Type 0) where
  -- there is no node k for the step, or its row isn't met for this reason
  abbrev pub IsRefused : List Clause → ℕ → Step → Why → Type 0
  IsRefused nodes k step why =
      ((slice_get nodes k ≡ None) × (why ≡ NoSuchNode))
      ⊎ ((c : Clause) × (slice_get nodes k ≡ Some c)
      × Says above c nodes (row_of spec usable nodes c step) (Err why))

  -- a block that begins with this clause
  module _ (start : Clause) (steps : List Step) where
    -- the steps before step k make what they make, and step k is refused for this reason
    abbrev pub StepIsRefused : ℕ → Why → Type 0
    StepIsRefused k why =
        (step : Step) × (made : List Children) × (slice_get steps k ≡ Some step)
        × StepsMake above spec usable (start ∷ []) 0 (take k steps) made
        × IsRefused (nodes_of start made) k step why

    -- all steps make what they make, and there are more nodes than steps
    abbrev pub IsPending : Type 0
    IsPending =
        (made : List Children) × StepsMake above spec usable (start ∷ []) 0 steps made
        × (length steps < length (nodes_of start made))

    -- all steps make what they make, and step k has a child or a reference that isn't allowed
    abbrev pub IsNotSmaller : ℕ → Type 0
    IsNotSmaller k =
        (made : List Children) × StepsMake above spec usable (start ∷ []) 0 steps made
        × (NodeIsAllowed made k → ⊥)
