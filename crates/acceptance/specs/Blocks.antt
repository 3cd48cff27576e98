-- What the steps of a block make, and when they prove a clause.
use Rattle.std.specs.Prelude.{◌≡◌, ℕ, suc, List, [], ◌∷◌, ◌++◌, Some, Ok, map, flat_map, length, slice_get}
use Rattle.term_core.specs.Tree.{Tree}
use Rattle.spec_core.specs.declared.records.Spec.{Spec}
use Rattle.clause_core.specs.declared.clauses.Clause.{Clause}
use Rattle.clause_core.specs.declared.steps.Step.{Step}
use Rattle.clause_core.specs.declared.answers.Child.{Child}
use Rattle.clause_core.specs.declared.answers.Children.{Children}
use Rattle.clause_core.specs.Limits.{IsWithin}
use Rattle.clause_core.specs.Says.{Says}
use Rattle.clause_core.specs.Steps.{row_of}
use Rattle.acceptance.specs.Strict.{AllAreAllowed}

abbrev pub clauses_of : Children → List Clause
clauses_of m = map (λ (child : Child). child.clause) m.clauses

-- the nodes of a block that begins with this clause: after it the children, in the order in which
-- they are made
abbrev pub nodes_of : Clause → List Children → List Clause
nodes_of start made = start ∷ flat_map clauses_of made

-- by an order on terms, over the goals that may be used, by their numbers
module _ (above : Tree → Tree → Type 0) (spec : Spec) (usable : ℕ → Type 0) where
  -- node k is there, and its step makes this, over the nodes so far
  pub record StepMakes (nodes : List Clause) (k : ℕ) (step : Step) (m : Children) : Type 0 where
    pub clause : Clause
    pub is : slice_get nodes k ≡ Some clause
    pub says : Says above clause nodes (row_of spec usable nodes clause step) (Ok m)

  -- the steps of the nodes from k on make these, one after the other, over the nodes so far
  abbrev pub StepsMake : List Clause → ℕ → List Step → List Children → Type 0
  StepsMake nodes k [] [] = Unit {0}
  StepsMake nodes k (step ∷ steps) (m ∷ made) =
      StepMakes nodes k step m × StepsMake (nodes ++ clauses_of m) (suc k) steps made
  StepsMake nodes k [] (m ∷ made) = ⊥
  StepsMake nodes k (step ∷ steps) [] = ⊥

  -- the steps prove the clause: each node has its step, and each child and reference is allowed
  pub record Proves (start : Clause) (steps : List Step) : Type 0 where
    pub within : IsWithin start
    pub made : List Children
    pub makes : StepsMake (start ∷ []) 0 steps made
    pub finished : length (nodes_of start made) ≡ length steps
    pub allowed : AllAreAllowed made
