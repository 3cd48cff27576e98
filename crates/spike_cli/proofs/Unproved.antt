-- A plain proof has a length, and a routine proof has nodes, so that a search alone proves nothing.
use Rattle.std.proofs.Common.{◌≡◌, ◌≢◌, ◌≤◌, ℕ, zero, suc, List, [], ◌∷◌, Some, None, inl, inr, refl, ap, subst, arith}
use Rattle.std.proofs.Common.{length}
use Rattle.std.proofs.lemmas.List.{length-map}
use Rattle.std.specs.Prelude.{slice_get}
use Rattle.std.specs.List.{AllByRecursion, range_with_len}
use Rattle.term_core.specs.Tree.{Tree}
use Rattle.term_core.proofs.Trees.{size_positive}
use Rattle.term_core.specs.declared.ids.SortId.{SortId}
use Rattle.spec_core.specs.declared.records.Equation.{Equation}
use Rattle.spec_core.specs.declared.records.Goal.{Goal}
use Rattle.spec_core.specs.declared.records.Spec.{Spec}
use Rattle.spec_core.specs.declared.records.VarInfo.{VarInfo}
use Rattle.spec_core.specs.Order.{constructors_of}
use Rattle.spec_core.specs.Sig.{Sig, IsSort}
use Rattle.spec_core.specs.WellSorted.{IsWellSorted, GoalIsSorted, sorts_of}
use Rattle.spec_order.specs.Orders.{above_of}
use Rattle.clause_core.specs.declared.clauses.Clause.{Clause}
use Rattle.clause_core.specs.declared.steps.Step.{Step}
use Rattle.clause_core.specs.Tidied.{goal_clause}
use Rattle.clause_core.specs.declared.reports.Outcome.{Outcome}
use Rattle.clause_core.specs.declared.reports.Outcome.TheVariants.{Proved, Refuted, Open}
use Rattle.refuter.specs.declared.answers.Search.{Search}
use Rattle.refuter.specs.declared.answers.Search.TheVariants.{Found, NotFound}
use Rattle.test_sets.proofs.SortConstructors.{test_set_covers}
use Rattle.test_sets.specs.TestSets.{applied}
use Rattle.plain_proof.specs.PlainProofs.{CaseCloses, CasesClose}
use Rattle.plain_proof.specs.FirstPlain.{HasPlain}
use Rattle.routine_proof.specs.Routine.{Start, IsRoutine}
use Rattle.search_claims.specs.Claims.{outcome_of}
use Rattle.command_line.specs.declared.bounds.SearchBounds.{SearchBounds}
use Rattle.spike_cli.specs.Claims.{EachGoal, HasRoutine, IsOutcomeOf, IsProvable, SomeGoal}
use Rattle.spike_cli.specs.Reports.{search_alone}
use Rattle.spike_cli.specs.SearchAlone.{ClaimsAreOfSearch, StatusIsOfSearch}
use Rattle.spike_cli.proofs.ProvedGoals.{has_first}

-- both normal forms have a symbol
module _ (spec : Spec) (ctx : List SortId) (e : Equation) (x : ℕ) where
  case_long : (c : ℕ × List SortId) (n : ℕ) → CaseCloses spec ctx e x c n → 1 ≤ n
  case_long c n h = omega (arith, h.length_is, size_positive h.left)

  cases_long :
      (cs : List (ℕ × List SortId)) (n : ℕ) → 1 ≤ length cs → CasesClose spec ctx e x cs n → 1 ≤ n
  cases_long [] n some all = absurd (omega arith)
  cases_long (c ∷ cs) n some all = omega (arith, case_long c all.0 all.2, all.4)

sort_at :
    (sig : Sig) (vars : List VarInfo) (x : ℕ) (s : SortId) →
    AllByRecursion (λ (v : VarInfo). IsSort sig v.sort) vars →
    slice_get (sorts_of vars) x ≡ Some s → IsSort sig s
sort_at sig [] x s all at = absurd (let q : None ≡ Some s = at in cc)
sort_at sig (v ∷ vars) zero s all at =
    let q : Some v.sort ≡ Some s = at in let k : v.sort ≡ s = cc in subst (IsSort sig) k all.0
sort_at sig (v ∷ vars) (suc x) s all at = sort_at sig vars x s all.1 at

pub no_plain :
    (spec : Spec) (goal : Goal) (x : ℕ) → IsWellSorted spec → GoalIsSorted spec.sig goal →
    HasPlain spec goal 0 x → ⊥
no_plain spec goal x fine sorted h =
    let p = h.1 in
    let value =
    fine.signature.small p.sort.0 (sort_at spec.sig goal.vars x p.sort sorted.variables
    p.sorted) in
    let covered = test_set_covers spec.sig p.sort value.0 value.1 in
    let cs = constructors_of spec.sig p.sort in
    let some : 1 ≤ length cs = omega (arith, covered.2, length-map cs applied) in
    let long = cases_long spec (sorts_of goal.vars) p.equation x cs h.0 some p.cases in
    absurd (omega (arith, long, h.2))

-- a routine proof has a node for the goal
no_steps :
    (above : Tree → Tree → Type 0) (spec : Spec) (lemmas : List ℕ) (goal : Clause) (start : Start)
    (steps : List Step) → length steps ≤ 0 → IsRoutine above spec lemmas goal start steps → ⊥
no_steps above spec lemmas goal start [] few r = absurd (let e : 1 ≡ 0 = r in omega (arith, e))
no_steps above spec lemmas goal start (step ∷ steps) few r = absurd (omega (arith, few))

pub no_routine :
    (search : SearchBounds) (spec : Spec) (lemmas : List ℕ) (goal : Goal) →
    HasRoutine (search_alone search) spec lemmas goal → ⊥
no_routine search spec lemmas goal h =
    no_steps (above_of spec) spec lemmas (goal_clause goal) h.0 h.1 h.3.few h.3.routine

module _ (search : SearchBounds) (spec : Spec) (fine : IsWellSorted spec) where
  pub claims_of_search :
      (goal : Goal) → GoalIsSorted spec.sig goal → ClaimsAreOfSearch search spec goal
  claims_of_search goal sorted lemmas claim c =
      record {
        search = c.search;
        name = c.name;
        outcome = by c.search claim.outcome c.outcome;
        false = c.false;
        exact = c.exact;
      }
    where
      by :
          (s : Search) (o : Outcome) → IsOutcomeOf (search_alone search) spec lemmas goal s o →
          o ≡ outcome_of search goal s
      by (Found index values) o h = h
      by (NotFound tried skipped cut) (Proved block) (inl h) =
          absurd (no_plain spec goal h.variable.0 fine sorted h.first.0)
      by (NotFound tried skipped cut) (Proved block) (inr h) =
          absurd (no_routine search spec lemmas goal
          (has_first (search_alone search) spec lemmas goal block.steps h.1))
      by (NotFound tried skipped cut) (Refuted index values) h = absurd h
      by (NotFound tried skipped cut) (Open budget) h = ap (λ b. Open b) h.2

  no_goal :
      (goals : List Goal) → ((k : ℕ) (goal : Goal) → slice_get goals k ≡ Some goal →
      GoalIsSorted spec.sig goal) → EachGoal (IsProvable (search_alone search) spec) goals →
      goals ≡ []
  no_goal [] sorted all = refl
  no_goal (g ∷ goals) sorted all = absurd (elim (all 0 g refl) [
    | inl plain ↦ no_plain spec g plain.0 fine (sorted 0 g refl) plain.1
    | inr routine ↦ no_routine search spec (range_with_len 0 0) g routine
  ])

  some_goal : (Holds : ℕ → Goal → Type 0) (goals : List Goal) → SomeGoal Holds goals → goals ≢ []
  some_goal Holds goals h e =
      let q : None ≡ Some h.1 = subst (λ gs. slice_get gs h.0 ≡ Some h.1) e h.2 in cc

  pub status_of_search : StatusIsOfSearch search spec
  status_of_search = record {
    left_open =
        λ h. (
          some_goal (λ number goal. IsProvable (search_alone search) spec number goal → ⊥)
              spec.goals h.0,
          h.1,
        );
    done = λ h. no_goal spec.goals fine.goals h.0;
  }
