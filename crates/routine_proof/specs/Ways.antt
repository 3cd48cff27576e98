-- Nodes with the way that leads to them.
use Rattle.std.specs.Prelude.{ℕ, Bool, true, false, not, cond, List, [], ◌∷◌, ◌++◌, map}
use Rattle.std.specs.List.{list_any}
use Rattle.clause_core.specs.declared.answers.Child.{Child}
use Rattle.clause_core.specs.declared.answers.Children.{Children}
use Rattle.clause_core.specs.declared.clauses.Clause.{Clause}
use Rattle.clause_core.specs.declared.steps.Step.{Step}
use Rattle.clause_core.specs.declared.steps.Step.TheVariants.{Cover}

-- the ancestors of a node from node 0 on, each with its step
abbrev pub Way : Type 0
Way = List (ℕ × Step)

pub record Node : Type 0 where
  pub clause : Clause
  pub way : Way

abbrev pub is_cover : Step → Bool
is_cover (Cover v patterns) = true
is_cover _ = false

-- some step on the way isn't a cover
abbrev pub moves : Way → Bool
moves way = list_any (λ (a : ℕ × Step). not (is_cover a.1)) way

-- the ancestors from which some step on the way to the node isn't a cover
abbrev pub ancestors : Way → List ℕ
ancestors [] = []
ancestors (a ∷ way) = cond (moves (a ∷ way)) (a.0 ∷ ancestors way) []

-- the nodes that the step of node k makes
abbrev pub born : ℕ → Node → Step → Children → List Node
born k node step made =
    map (λ (d : Child). record { clause = d.clause; way = node.way ++ (k, step) ∷ [] }) made.clauses
