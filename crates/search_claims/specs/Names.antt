-- The names of a specification that may appear in a report.
use Rattle.std.specs.List.{AllByRecursion}
use Rattle.spec_core.specs.declared.records.Goal.{Goal}
use Rattle.spec_core.specs.declared.records.Spec.{Spec}
use Rattle.spec_core.specs.Sig.{names_of}
use Rattle.spec_core.specs.TermText.{variable_names}
use Rattle.proof_script.specs.Names.{IsReportName}

-- the name of the goal and those of its variables
pub record GoalNamesStand (goal : Goal) : Type 0 where
  pub goal_name : IsReportName goal.name
  pub variables : AllByRecursion IsReportName (variable_names goal.vars)

-- the names of the symbols, of the goals and of their variables
pub record NamesStand (spec : Spec) : Type 0 where
  pub symbols : AllByRecursion IsReportName (names_of spec.sig)
  pub goals : AllByRecursion GoalNamesStand spec.goals
