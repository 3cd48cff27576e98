-- Routine blocks, as a test of finished steps: each is the first of its node's list that the table
-- defines. Nothing is built, and no node is pending.
use Rattle.std.specs.Prelude.{◌≡◌, ℕ, suc, List, [], ◌∷◌, ◌++◌, Some, map, length, slice_get}
use Rattle.clause_core.specs.declared.answers.Children.{Children}
use Rattle.clause_core.specs.declared.clauses.Clause.{Clause}
use Rattle.clause_core.specs.declared.steps.Step.{Step}
use Rattle.routine_proof.specs.declared.moves.Move.{Move}
use Rattle.routine_proof.specs.Candidates.{Candidate, Gives}
use Rattle.routine_proof.specs.First.{FirstIs}
use Rattle.routine_proof.specs.Ways.{Node, born}

abbrev pub clauses : List Node → List Clause
clauses nodes = map (λ (n : Node). n.clause) nodes

-- the node of a goal's clause
abbrev pub root : Clause → Node
root goal = record { clause = goal; way = [] }

-- what a table of steps says that a step makes of a clause, over the clauses of the nodes so far
abbrev pub Table : Type 1
Table = List Clause → Clause → Step → Children → Type 0

module _ (says : Table) (candidates : ℕ → List Node → Node → List Candidate) where
  -- the move is the first that the candidates of node k give
  abbrev pub IsChosen : List Node → ℕ → Node → Move → Type 0
  IsChosen nodes k node move =
      FirstIs (Gives (says (clauses nodes) node.clause)) (candidates k nodes node) move

  -- the steps from node k on, over the nodes made so far, are each the chosen one, and at the end
  -- no node is left
  abbrev pub Runs : List Node → ℕ → List Step → Type 0
  Runs nodes k [] = length nodes ≡ k
  Runs nodes k (step ∷ steps) =
      (node : Node) × (move : Move)
      × (slice_get nodes k ≡ Some node)
      × IsChosen nodes k node move
      × (move.step ≡ step)
      × Runs (nodes ++ born k node step move.made) (suc k) steps
