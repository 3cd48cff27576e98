-- The names at the nodes of a block.
use Rattle.std.specs.Prelude.{◌≡◌, List, Some, length, slice_get}
use Rattle.std.specs.List.{AllZip}
use Rattle.spec_core.specs.declared.records.Goal.{Goal}
use Rattle.spec_core.specs.declared.records.Spec.{Spec}
use Rattle.clause_core.specs.declared.clauses.Clause.{Clause}
use Rattle.clause_core.specs.Tidied.{goal_clause}
use Rattle.node_names.specs.declared.names.NodeNames.{NodeNames}
use Rattle.node_names.specs.Names.{AreDifferent, AreNames, AreNoSymbols, goal_names}

-- a name for each variable of the clause, and names for a pattern's variables
pub record NamesNode (spec : Spec) (goal : Goal) (c : Clause) (names : NodeNames) : Type 0 where
  pub each : length names.variables ≡ length c.ctx
  pub variables : AreNames spec goal names.variables
  pub pattern : AreNames spec goal names.pattern

-- the goal's own names, where these are different and none of them is a symbol's
abbrev pub KeepsGoalNames : Spec → Goal → NodeNames → Type 0
KeepsGoalNames spec goal names =
    AreDifferent (goal_names goal) → AreNoSymbols spec.sig (goal_names goal)
    → names.variables ≡ goal_names goal

-- names for the nodes of these clauses. If the first one is the goal's, it has the goal's own names
pub record AreNodeNames (spec : Spec) (goal : Goal) (clauses : List Clause)
    (nodes : List NodeNames) : Type 0 where
  pub each : AllZip (NamesNode spec goal) clauses nodes
  pub first : (names : NodeNames) → slice_get clauses 0 ≡ Some (goal_clause goal)
      → slice_get nodes 0 ≡ Some names → KeepsGoalNames spec goal names
