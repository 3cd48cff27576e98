-- What further goals don't change.
use Rattle.std.specs.Prelude.{◌↔◌, List}
use Rattle.term_core.specs.Tree.{Tree}
use Rattle.term_core.specs.declared.ids.SortId.{SortId}
use Rattle.spec_core.specs.declared.records.Goal.{Goal}
use Rattle.spec_core.specs.declared.records.Spec.{Spec}
use Rattle.spec_core.specs.Truth.{AreValuesOf, GoalFails, GoalIsTrue}
use Rattle.added_goals.specs.Additions.{AddsGoals}

-- a goal is true of both or of none, and fails under values of both or of none; and both have the same
-- values
pub record KeepsMeaning (old new : Spec) : Type 0 where
  pub true : (goal : Goal) → GoalIsTrue new goal ↔ GoalIsTrue old goal
  pub values : (sorts : List SortId) (values : List Tree) →
      AreValuesOf new sorts values ↔ AreValuesOf old sorts values
  pub fails : (goal : Goal) (values : List Tree) → GoalFails new values goal ↔ GoalFails old values goal

abbrev pub AddingKeepsMeaning : Type 0
AddingKeepsMeaning = (old new : Spec) → AddsGoals old new → KeepsMeaning old new
