-- The first step of the block of a plain proof.
use Rattle.std.specs.Prelude.{◌≡◌, ℕ, ◌<◌, List, [], ◌∷◌, Some, Ok, map, slice_get}
use Rattle.term_core.specs.Tree.{Tree}
use Rattle.term_core.specs.declared.ids.SortId.{SortId}
use Rattle.spec_core.specs.declared.records.Equation.{Equation}
use Rattle.spec_core.specs.declared.records.Goal.{Goal}
use Rattle.spec_core.specs.declared.records.Spec.{Spec}
use Rattle.spec_core.specs.Order.{constructors_of}
use Rattle.spec_core.specs.WellSorted.{GoalIsSorted, sorts_of}
use Rattle.clause_core.specs.declared.clauses.Clause.{Clause}
use Rattle.clause_core.specs.Says.{Says}
use Rattle.clause_core.specs.Covering.{cover_row}
use Rattle.clause_core.specs.Tidied.{variables_of, tidied, written_clause}
use Rattle.test_sets.specs.Laws.{same_children}
use Rattle.test_sets.specs.TestSets.{test_set_of}
use Rattle.plain_proof.specs.Cases.{in_case, case_ctx}
use Rattle.plain_proof.specs.Limits.{equation_clause}
use Rattle.plain_proof.specs.PlainProofs.{IsPlain}

-- the clause of a constructor's case, tidied
abbrev pub case_clause : List SortId → Equation → ℕ → ℕ × List SortId → Clause
case_clause ctx e x k =
    tidied
    (equation_clause (case_ctx ctx k) (in_case ctx x k e.left) (in_case ctx x k e.right))

-- at the tidied clause alone, the table says that `cover` of the variable that was x, by the test set
-- of its sort, makes these children, which are all Same
pub record FirstStep (above : Tree → Tree → Type 0) (spec : Spec) (written : Clause) (x : ℕ)
    (sort : SortId) (cases : List Clause) : Type 0 where
  pub variable : ℕ
  pub is : slice_get (variables_of written) variable ≡ Some x
  pub says :
      Says above (tidied written) (tidied written ∷ [])
      (cover_row spec (tidied written) variable (test_set_of spec.sig sort))
      (Ok (same_children cases))

-- a goal with a plain proof on x, shorter than the most nodes of a block, has its cases by `cover`
abbrev pub FirstSteps : (Tree → Tree → Type 0) → Type 0
FirstSteps above =
    (spec : Spec) (goal : Goal) (x long : ℕ) → GoalIsSorted spec.sig goal →
    (p : IsPlain spec goal x long) → long < 10000 →
    FirstStep above spec (written_clause goal) x p.sort
    (map (case_clause (sorts_of goal.vars) p.equation x) (constructors_of spec.sig p.sort))
