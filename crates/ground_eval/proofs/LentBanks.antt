-- What runs answer over a bank that is lent.
use Rattle.std.proofs.Common.{◌≡◌, ℕ, List, [], refl, ap, sym, ◌∙◌, subst, arith, length, map}
use Rattle.std.specs.List.{AllByRecursion}
use Rattle.term_core.specs.Tree.{Tree, instance, list_of}
use Rattle.term_core.proofs.Trees.{list_of-trees_of}
use Rattle.term_core.specs.declared.ids.SortId.{SortId}
use Rattle.spec_core.specs.declared.records.Goal.{Goal}
use Rattle.spec_core.specs.declared.records.Spec.{Spec}
use Rattle.spec_core.specs.declared.records.Verdict.{Verdict}
use Rattle.spec_core.specs.Sorts.{Sorted, IsBuilt}
use Rattle.spec_core.specs.Truth.{AreValuesOf}
use Rattle.spec_core.specs.WellSorted.{IsWellSorted, GoalIsSorted, sorts_of}
use Rattle.spec_core.proofs.Determined.{determined}
use Rattle.value_bank.specs.Cells.{Cell, IsTerm}
use Rattle.value_bank.specs.declared.bank.ValueId.{ValueId}
use Rattle.value_bank.proofs.Terms.{one_terms}
use Rattle.rule_code.specs.Programs.{Program, IsSide}
use Rattle.bank_machine.specs.declared.answers.BankEval.{BankEval}
use Rattle.bank_machine.specs.declared.answers.BankEval.TheVariants.{Value, Spent}
use Rattle.bank_machine.specs.Runs.{StandAt, CanRun, IsBankEval}
use Rattle.ground_eval.specs.declared.comparing.SidePair.{SidePair}
use Rattle.ground_eval.specs.Evals.{CanEvaluate, IsOnlyAt}
use Rattle.ground_eval.specs.Prepared.{IsPrepared, CanCompareAll}
use Rattle.ground_eval.specs.Sides.{IsDecided}
use Rattle.ground_eval.proofs.GoalSides.{values_built, sorted_under}
use Rattle.ground_eval.proofs.PartGoals.{places_count}
use Rattle.ground_eval.proofs.SharedSides.{values_count, compiled_ready}

-- one list of values is at places
pub stand_once : (cells : List Cell) (ids : List ValueId) (vs ws : List Tree)
    → StandAt cells ids vs → StandAt cells ids ws → vs ≡ ws
stand_once cells ids vs ws h k =
    let same = one_terms cells (map (λ (id : ValueId). id.0) ids) _ _ h k in
    sym (list_of-trees_of vs) ∙ ap list_of same ∙ list_of-trees_of ws

-- the value that was found, and its cost, are the only ones
pub only_found : (spec : Spec) → IsWellSorted spec → (cells : List Cell) (t : Tree) (s : SortId)
    (b : ℕ) → Sorted spec.sig [] t s → (found : BankEval) → IsBankEval spec cells t b found
    → IsOnlyAt spec cells t found
only_found spec fine cells t s b p (Value id n) h = λ a w v m g.
    let d = determined spec fine a w g s p h.2 in
    (subst (λ x. IsTerm cells id.0 x) (sym d.0) h.1, d.1)
only_found spec fine cells t s b p Spent h = tt

module _ (spec : Spec) (cells : List Cell) (t : Tree) (ids : List ValueId) where
  -- each variable has a place
  pub places_of_all : (vs : List Tree) (c : CanEvaluate spec cells t ids vs)
      → length ids ≡ length c.sorts
  places_of_all vs c = omega (arith, places_count cells ids vs c.stand, values_count spec c.sorts vs c.are)

  module _ (p : Program) (side : ℕ) (same : p.spec ≡ spec) (code : IsSide p side (length ids) t) where
    -- the code of the term can run
    pub term_runs : (vs : List Tree) (c : CanEvaluate spec cells t ids vs) → CanRun p cells side ids t vs c.sort
    term_runs vs c =
        record {
          code = code;
          stand = c.stand;
          built = subst (λ (z : Spec). AllByRecursion (λ (v : Tree). IsBuilt z.sig v) vs) (sym same)
              (values_built spec c.sorts vs c.are);
          sorted = subst (λ (z : Spec). Sorted z.sig [] (instance vs t) c.sort) (sym same)
              (sorted_under spec c.sorts vs t c.sort c.are c.sorted);
        }

    module _ (vs : List Tree) (c : CanEvaluate spec cells t ids vs) (new : List Cell) (budget : ℕ)
        (found : BankEval)
        (ran : (term : Tree) (terms : List Tree) (sort : SortId)
        → CanRun p cells side ids term terms sort
        → IsBankEval p.spec new (instance terms term) budget found)
        (ws : List Tree) (stand : StandAt cells ids ws) where
      here : CanEvaluate spec cells t ids ws
      here = subst (λ xs. CanEvaluate spec cells t ids xs) (stand_once cells ids vs ws c.stand stand) c

      -- what the run answers is the term's under the values
      pub run_found : IsBankEval spec new (instance ws t) budget found
      run_found = subst (λ (z : Spec). IsBankEval z new (instance ws t) budget found) same
          (ran t ws here.sort (term_runs ws here))

      pub run_only : IsWellSorted spec → IsOnlyAt spec new (instance ws t) found
      run_only fine =
          let sorted = sorted_under spec here.sorts ws t here.sort here.are here.sorted in
          only_found spec fine new (instance ws t) here.sort budget sorted found run_found

-- what the comparison of compiled sides answers is the goal's under the values
pub sides_decide : (spec : Spec) (goal : Goal) → GoalIsSorted spec.sig goal → (p : Program)
    → p.spec ≡ spec → {premises conclusions lefts rights : List SidePair}
    → IsPrepared p goal premises conclusions → (values : List Tree)
    → AreValuesOf spec (sorts_of goal.vars) values → {cells : List Cell} {ids : List ValueId}
    → StandAt cells ids values → lefts ≡ premises → rights ≡ conclusions → (budget : ℕ) (r : Verdict)
    → ((g : Goal) (terms : List Tree) → CanCompareAll p cells lefts ids g.premises terms
    → CanCompareAll p cells rights ids g.conclusions terms
    → IsDecided p.spec terms budget g r)
    → (ws : List Tree) → StandAt cells ids ws → IsDecided spec ws budget goal r
sides_decide spec goal sorted p same code values are {cells} {ids} stand left right budget r decided
    ws other =
    let ready = compiled_ready spec goal sorted p same code values are stand left right refl in
    let here : IsDecided spec values budget goal r = subst (λ (s : Spec). IsDecided s values budget goal r)
    same (decided goal values ready.0 ready.1) in
    subst (λ vs. IsDecided spec vs budget goal r) (stand_once cells ids values ws stand other) here
