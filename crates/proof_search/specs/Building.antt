-- The nodes of a block that is being built, with the ways that lead to them.
use Rattle.std.specs.Prelude.{◌≡◌, ℕ, suc, ◌≤◌, ◌<◌, List, [], ◌∷◌, ◌++◌, Option, Some, None, map, length, slice_get}
use Rattle.std.specs.Prelude.{remove}
use Rattle.std.specs.List.{zip}
use Rattle.clause_core.specs.declared.answers.Child.{Child}
use Rattle.clause_core.specs.declared.clauses.Clause.{Clause}
use Rattle.clause_core.specs.declared.steps.Step.{Step}
use Rattle.block_links.specs.Links.{links_of}
use Rattle.inference_rules.specs.declared.nodes.Node.{Node as ClauseNode}
use Rattle.routine_proof.specs.declared.moves.Move.{Move}
use Rattle.routine_proof.specs.Ways.{Way, Node}
use Rattle.proof_search.specs.declared.building.Building.{Building}
use Rattle.proof_search.specs.Leading.{ArePlaces}

-- the way to a child of the node with this number, if the node and its step are there
abbrev pub way_below : ℕ → Option Node → Option Step → Way
way_below parent (Some node) (Some step) = node.way ++ (parent, step) ∷ []
way_below parent (Some node) None = []
way_below parent None step = []

-- some nodes, and after them those of these clauses, each with the number of its parent
abbrev pub grown : List Step → List Node → List (ClauseNode × ℕ) → List Node
grown steps nodes [] = nodes
grown steps nodes (made ∷ more) =
    grown steps
    (nodes
    ++ record {
      clause = made.0.clause;
      way = way_below made.1 (slice_get nodes made.1) (slice_get steps made.1);
    }
    ∷ [])
    more

-- the nodes so far, each with its way
abbrev pub nodes_in : Building → List Node
nodes_in b = grown b.steps.items [] (zip b.block.nodes.items b.parents.items)

-- each node but the first is a child of an earlier node with a step, and the places of their
-- leading equations are kept
pub record IsWhole (b : Building) : Type 0 where
  pub paired : length b.parents.items ≡ length b.block.nodes.items
  pub parents :
      (k p : ℕ) → slice_get b.parents.items (suc k) ≡ Some p →
      (p ≤ k) × (p < length b.steps.items)
  pub leadings : ArePlaces b.block.nodes.items b.leadings.items

-- the node of the clause alone, without a step
pub record Begins (clause : Clause) (b : Building) : Type 0 where
  pub nodes : b.block.nodes.items ≡ record { clause = clause } ∷ []
  pub parents : b.parents.items ≡ 0 ∷ []
  pub steps : b.steps.items ≡ []
  pub links : b.block.links.items ≡ []
  pub leadings : ArePlaces b.block.nodes.items b.leadings.items

-- the nodes of children, and for each of them the number of the parent
abbrev pub child_nodes : List Child → List ClauseNode
child_nodes children = map (λ (d : Child). record { clause = d.clause }) children

abbrev pub child_parents : ℕ → List Child → List ℕ
child_parents parent children = map (λ (d : Child). parent) children

-- the next node has the step of the move, and what it makes comes after the other nodes
pub record Takes (old new : Building) (move : Move) : Type 0 where
  pub nodes : new.block.nodes.items ≡ old.block.nodes.items ++ child_nodes move.made.clauses
  pub parents :
      new.parents.items
      ≡ old.parents.items ++ child_parents (length old.steps.items) move.made.clauses
  pub steps : new.steps.items ≡ old.steps.items ++ move.step ∷ []
  pub links : new.block.links.items ≡ old.block.links.items ++ links_of move.made ∷ []
  pub leadings :
      ArePlaces old.block.nodes.items old.leadings.items → ArePlaces new.block.nodes.items new.leadings.items
  pub sides : new.sides ≡ old.sides

-- the next node, of this clause, is taken out
pub record Passes (old new : Building) (clause : Clause) : Type 0 where
  pub is : slice_get old.block.nodes.items (length old.steps.items) ≡ Some (record { clause = clause })
  pub nodes : new.block.nodes.items ≡ remove old.block.nodes.items (length old.steps.items)
  pub parents : new.parents.items ≡ remove old.parents.items (length old.steps.items)
  pub steps : new.steps.items ≡ old.steps.items
  pub leadings : ArePlaces new.block.nodes.items new.leadings.items
  pub sides : new.sides ≡ old.sides
