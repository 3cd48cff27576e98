-- The goal that a raw goal stands for.
use Rattle.std.specs.Prelude.{◌≡◌, ℕ, List, ◌++◌, length, map, take}
use Rattle.std.specs.List.{AllByRecursion, AllZip}
use Rattle.spec_core.specs.declared.records.Goal.{Goal}
use Rattle.spec_core.specs.declared.records.VarInfo.{VarInfo}
use Rattle.spec_core.specs.Sig.{Sig, names_of}
use Rattle.spec_core.specs.Declarations.{AreNewNames}
use Rattle.spec_core.specs.WellSorted.{GoalIsSorted}
use Rattle.spec_core.specs.TermText.{variable_names}
use Rattle.spec_grammar.specs.declared.raw.RawBind.{RawBind}
use Rattle.spec_grammar.specs.declared.raw.RawGoal.{RawGoal}
use Rattle.sort_check.specs.Signatures.{SortStands}
use Rattle.sort_check.specs.Terms.{EquationStands}
use Rattle.sort_check.specs.Occurrence.{names_after_sides}
use Rattle.sort_check.specs.Inference.{Gets}

-- the names of a goal's variables: the bindings, and then the others by first occurrence
abbrev pub goal_names : Sig → RawGoal → List (List ℕ)
goal_names sig raw = names_after_sides sig (map (λ (b : RawBind). b.name.name) raw.binds)
    (raw.premises ++ raw.conclusions)

-- a variable of the binding's name, and of the sort of the name that the binding gives
abbrev pub VariableStands : Sig → RawBind → VarInfo → Type 0
VariableStands sig raw v = (v.name ≡ raw.name.name) × SortStands sig.sorts raw.sort v.sort

-- the variables are those of the raw goal, with distinct names that no symbol has, first the bound ones with the sorts of
-- their bindings, and each with a sort that it gets; each side is a term over them, and both sides of each equation have
-- one sort
pub record GoalStands (sig : Sig) (raw : RawGoal) (goal : Goal) : Type 0 where
  pub name : goal.name ≡ raw.head.name
  pub variables : variable_names goal.vars ≡ goal_names sig raw
  pub names : AreNewNames (names_of sig) (variable_names goal.vars)
  pub bound : AllZip (VariableStands sig) raw.binds (take (length raw.binds) goal.vars)
  pub sorts : AllByRecursion (λ (v : VarInfo). Gets sig raw v.name v.sort) goal.vars
  pub premises : AllZip (EquationStands sig (variable_names goal.vars)) raw.premises goal.premises
  pub conclusions : AllZip (EquationStands sig (variable_names goal.vars)) raw.conclusions
      goal.conclusions
  pub sorted : GoalIsSorted sig goal
