-- The proof of a goal as it is shown.
use Rattle.std.specs.Prelude.{◌≡◌, ℕ, List, [], ◌∷◌}
use Rattle.term_core.specs.Tree.{Tree}
use Rattle.spec_core.specs.declared.records.Goal.{Goal}
use Rattle.spec_core.specs.declared.records.Spec.{Spec}
use Rattle.clause_core.specs.declared.answers.Children.{Children}
use Rattle.clause_core.specs.declared.steps.Step.{Step}
use Rattle.clause_core.specs.Tidied.{goal_clause}
use Rattle.acceptance.specs.Blocks.{nodes_of, StepsMake}
use Rattle.node_names.specs.declared.names.NodeNames.{NodeNames}
use Rattle.node_names.specs.Nodes.{AreNodeNames}
use Rattle.page_core.specs.Events.{Event}
use Rattle.proof_trees.specs.Nodes.{block_events}

-- What is drawn is the block that the steps make from the goal's clause, by an order on terms and
-- over the goals that may be used, with names for the variables at each node.
pub record IsProofShown (above : Tree → Tree → Type 0) (spec : Spec) (usable : ℕ → Type 0)
    (number : ℕ) (goal : Goal) (steps : List Step) (drawn : List Event) : Type 0 where
  pub made : List Children
  pub makes : StepsMake above spec usable (goal_clause goal ∷ []) 0 steps made
  pub names : List NodeNames
  pub named : AreNodeNames spec goal (nodes_of (goal_clause goal) made) names
  pub is :
      drawn
      ≡ block_events (record {
        spec = spec;
        goal = number;
        clauses = nodes_of (goal_clause goal) made;
        steps = steps;
        made = made;
        names = names;
      })
