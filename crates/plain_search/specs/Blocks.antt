-- The block of a plain proof.
use Rattle.std.specs.Prelude.{◌≡◌, ℕ, suc, List, [], ◌∷◌, Some, Contains, length, take, slice_get}
use Rattle.term_core.specs.Tree.{Tree}
use Rattle.term_core.specs.declared.ids.SortId.{SortId}
use Rattle.term_core.specs.declared.ids.VarId.{VarId}
use Rattle.spec_core.specs.declared.records.Goal.{Goal}
use Rattle.spec_core.specs.declared.records.Spec.{Spec}
use Rattle.spec_core.specs.WellSorted.{sorts_of}
use Rattle.clause_core.specs.declared.clauses.Clause.{Clause}
use Rattle.clause_core.specs.declared.steps.Step.{Step}
use Rattle.clause_core.specs.declared.steps.Step.TheVariants.{Cover}
use Rattle.clause_core.specs.declared.answers.Children.{Children}
use Rattle.clause_core.specs.Tidied.{variables_of, written_clause, goal_clause}
use Rattle.acceptance.specs.Blocks.{nodes_of, StepsMake}
use Rattle.test_sets.specs.TestSets.{test_set_of}
use Rattle.plain_search.specs.Choices.{IsChosen}

-- the step splits the goal's variable x by the test set of its sort
pub record IsSplit (spec : Spec) (goal : Goal) (x : ℕ) (step : Step) : Type 0 where
  pub variable : VarId
  pub sort : SortId
  pub is : slice_get (variables_of (written_clause goal)) variable.0 ≡ Some x
  pub sorted : slice_get (sorts_of goal.vars) x ≡ Some sort
  pub covers : step ≡ Cover variable (test_set_of spec.sig sort)

module _ (above : Tree → Tree → Type 0) (spec : Spec) (start : Clause) where
  -- each of these steps, which come after the first one, is chosen at the node of its number, over
  -- the nodes that the steps before it make. No goal is used
  abbrev pub AreChosen : List Step → List Children → Type 0
  AreChosen others made =
      (k : ℕ) (step : Step) (c : Clause) → slice_get others k ≡ Some step →
      slice_get (nodes_of start (take (suc k) made)) (suc k) ≡ Some c →
      IsChosen above spec (Contains []) start (nodes_of start (take (suc k) made)) c step

-- the steps are the block of the goal's plain proof on x: the first one splits x, each other one is
-- chosen, and there is one for each node
pub record IsPlainBlock (above : Tree → Tree → Type 0) (spec : Spec) (goal : Goal) (x : ℕ)
    (steps : List Step) : Type 0 where
  pub split : Step
  pub others : List Step
  pub is : steps ≡ split ∷ others
  pub splits : IsSplit spec goal x split
  pub made : List Children
  pub makes : StepsMake above spec (Contains []) (goal_clause goal ∷ []) 0 steps made
  pub finished : length (nodes_of (goal_clause goal) made) ≡ length steps
  pub chosen : AreChosen above spec (goal_clause goal) others made
