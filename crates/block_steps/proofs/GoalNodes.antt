-- The clause of a goal can be the first node of a block.
use Rattle.std.proofs.Common.{◌≡◌, ℕ, List, [], ◌∷◌, Some}
use Rattle.std.specs.Prelude.{slice_get}
use Rattle.std.specs.List.{AllByRecursion}
use Rattle.spec_core.specs.declared.records.Goal.{Goal}
use Rattle.spec_core.specs.declared.records.Spec.{Spec}
use Rattle.spec_core.specs.declared.records.VarInfo.{VarInfo}
use Rattle.spec_core.specs.Sig.{Sig, IsSort}
use Rattle.spec_core.specs.WellSorted.{GoalIsSorted, IsWellSorted, sorts_of}
use Rattle.clause_core.specs.ClauseLaws.{TidyingLaws}
use Rattle.clause_core.specs.Limits.{IsWithin}
use Rattle.clause_core.specs.Tidied.{goal_clause, written_clause}
use Rattle.descent.specs.SortedChildren.{IsNode}

sorts_are :
    (sig : Sig) (vars : List VarInfo) → AllByRecursion (λ (v : VarInfo). IsSort sig v.sort) vars →
    AllByRecursion (IsSort sig) (sorts_of vars)
sorts_are sig [] h = tt
sorts_are sig (v ∷ vars) h = (h.0, sorts_are sig vars h.1)

pub goal_node :
    (spec : Spec) → IsWellSorted spec → TidyingLaws → (k : ℕ) (goal : Goal) → slice_get spec.goals k ≡ Some goal →
    IsWithin (goal_clause goal) → IsNode spec.sig (goal_clause goal)
goal_node spec fine laws k goal at within =
    let its : GoalIsSorted spec.sig goal = fine.goals k goal at in
    record {
      sorted =
          laws.keeps_sorts spec.sig (written_clause goal) fine.signature
          (record {
            variables = sorts_are spec.sig goal.vars its.variables;
            premises = its.premises;
            conclusions = its.conclusions;
          });
      is_tidied = laws.is_tidied (written_clause goal);
      within = within;
    }
