-- If a tidied clause fails, the clause does: variables that don't occur get some value of their sort.
use Rattle.std.proofs.Common.{◌≡◌, ◌⊎◌, ℕ, zero, suc, ◌+◌, List, [], ◌∷◌, Some, None, map, inl, inr, refl, ap, sym}
use Rattle.std.proofs.Common.{◌∙◌, subst, arith, length}
use Rattle.std.specs.Prelude.{slice_get, slice_index_or}
use Rattle.std.specs.List.{AllByRecursion}
use Rattle.term_core.specs.declared.ids.SortId.{SortId}
use Rattle.term_core.specs.Tree.{Tree, Trees, var, app, none, some, instance, instances, trees_of}
use Rattle.term_core.specs.Variables.{Occurs, OccursAny}
use Rattle.spec_core.specs.declared.records.Equation.{Equation}
use Rattle.spec_core.specs.declared.records.Goal.{Goal}
use Rattle.spec_core.specs.declared.records.VarInfo.{VarInfo}
use Rattle.spec_core.specs.declared.records.Spec.{Spec}
use Rattle.spec_core.specs.Sig.{Sig, IsSort}
use Rattle.spec_core.specs.Sorts.{Sorted, SortedAll, IsValue}
use Rattle.spec_core.specs.Declarations.{IsDeclared, bool_sort}
use Rattle.spec_core.specs.Gives.{Gives}
use Rattle.spec_core.specs.Groups.{GroupsAreWhole}
use Rattle.spec_core.specs.Overlap.{NoOverlap}
use Rattle.spec_core.specs.Truth.{AreValuesOf, AllHold, AllBroken, SomeHolds, GoalIsTrue}
use Rattle.spec_core.specs.WellSorted.{IsWellSorted, GoalIsSorted, sorts_of}
use Rattle.clause_core.specs.declared.clauses.Clause.{Clause}
use Rattle.clause_core.specs.Clauses.{sides_of, ClauseIsSorted}
use Rattle.clause_core.specs.Tidied.{variables_of, place_of, renumbered, renumbered_all, renumbered_equation, sorts_at}
use Rattle.clause_core.specs.Tidied.{tidied, written_clause, goal_clause}
use Rattle.clause_core.specs.Failing.{ClauseFails}
use Rattle.clause_core.proofs.TidiedSorts.{variables_met, at_place, sort_at, any_in_first, any_in_second, keeps_sorts}
use Rattle.clause_core.proofs.Renumbering.{Met, met_or_not}
use Rattle.descent.proofs.Closers.{value_of, one_under}
use Rattle.descent.proofs.SortedEquations.{Each, each_sorted}

module _ (spec : Spec) (fine : IsWellSorted spec) (ctx : List SortId) (olds : List ℕ) (ws : List Tree)
    (values : AreValuesOf spec (sorts_at ctx olds) ws) where
  some_small : (s : SortId) → IsSort spec.sig s → (v : Tree) × IsValue spec.sig s v
  some_small s h = let v = fine.signature.small s.0 h in (v.0, v.1)

  chosen : (n : ℕ) (s : SortId) → IsSort spec.sig s → Met olds n ⊎ (place_of olds n ≡ length olds) → Tree
  chosen n s h (inl i) = instance ws (var (place_of olds n))
  chosen n s h (inr k) = (some_small s h).0

  -- the values of the variables from a number on
  filled : (ss : List SortId) → AllByRecursion (IsSort spec.sig) ss → ℕ → List Tree
  filled [] h k = []
  filled (s ∷ ss) h k = chosen k s h.0 (met_or_not olds k) ∷ filled ss h.1 (suc k)

  chosen_is : (n : ℕ) (s : SortId) (h : IsSort spec.sig s) → Met olds n →
      (o : Met olds n ⊎ (place_of olds n ≡ length olds)) → chosen n s h o ≡ instance ws (var (place_of olds n))
  unfolding chosen
  chosen_is n s h i (inl j) = refl
  chosen_is n s h i (inr k) = absurd (omega (arith, i, k))

  chosen_value : (n : ℕ) (s : SortId) (h : IsSort spec.sig s) → slice_get ctx n ≡ Some s →
      (o : Met olds n ⊎ (place_of olds n ≡ length olds)) → IsValue spec.sig s (chosen n s h o)
  unfolding chosen
  chosen_value n s h at (inl i) = value_of spec (sorts_at ctx olds) ws values (place_of olds n) s
      (at_place (λ m. slice_index_or ctx m bool_sort) olds n i ∙ ap (λ r. Some r) (sort_at ctx n s at))
      (var (place_of olds n))
  chosen_value n s h at (inr k) = (some_small s h).1

  filled_values : (ss : List SortId) (h : AllByRecursion (IsSort spec.sig) ss) (k : ℕ) →
      ((m : ℕ) (s : SortId) → slice_get ss m ≡ Some s → slice_get ctx (k + m) ≡ Some s) →
      AreValuesOf spec ss (filled ss h k)
  unfolding filled
  filled_values [] h k f = tt
  filled_values (s ∷ ss) h k f =
      let z : k + 0 ≡ k = omega arith in (
        chosen_value k s h.0 (subst (λ j. slice_get ctx j ≡ Some s) z (f 0 s refl)) (met_or_not olds k),
        filled_values ss h.1 (suc k) (λ m r at. let q : k + suc m ≡ suc k + m = omega arith in
            subst (λ j. slice_get ctx j ≡ Some r) q (f (suc m) r at)),
      )

  filled_at : (ss : List SortId) (h : AllByRecursion (IsSort spec.sig) ss) (k m : ℕ) (s : SortId) (d : Tree) →
      slice_get ss m ≡ Some s → Met olds (k + m) →
      slice_index_or (filled ss h k) m d ≡ instance ws (var (place_of olds (k + m)))
  unfolding filled
  filled_at [] h k m s d at i = absurd (let q : None ≡ Some s = at in cc)
  filled_at (r ∷ ss) h k zero s d at i =
      let z : k + 0 ≡ k = omega arith in
      chosen_is k r h.0 (subst (λ j. Met olds j) z i) (met_or_not olds k)
      ∙ ap (λ j. instance ws (var (place_of olds j))) (sym z)
  filled_at (r ∷ ss) h k (suc m) s d at i =
      let z : k + suc m ≡ suc k + m = omega arith in
      filled_at ss h.1 (suc k) m s d at (subst (λ j. Met olds j) z i)
      ∙ ap (λ j. instance ws (var (place_of olds j))) (sym z)

  module _ (sorts : AllByRecursion (IsSort spec.sig) ctx) where
    all_values : AreValuesOf spec ctx (filled ctx sorts 0)
    all_values = filled_values ctx sorts 0 (λ m s at. let z : 0 + m ≡ m = omega arith in
        subst (λ j. slice_get ctx j ≡ Some s) (sym z) at)

    mutual
      same_before : (t : Tree) (s : SortId) → Sorted spec.sig ctx t s → ((n : ℕ) → Occurs n t → Met olds n) →
          instance ws (renumbered olds t) ≡ instance (filled ctx sorts 0) t
      same_before (var n) s p h =
          let z : 0 + n ≡ n = omega arith in
          sym (filled_at ctx sorts 0 n s (var n) p (subst (λ j. Met olds j) (sym z) (h n refl))
          ∙ ap (λ j. instance ws (var (place_of olds j))) z)
      same_before (app f ts) s p h = ap (λ us. app f us) (sames_before ts p.0.args p.3 h)

      sames_before : (ts : Trees) (ss : List SortId) → SortedAll spec.sig ctx ts ss →
          ((n : ℕ) → OccursAny n ts → Met olds n) →
          instances ws (renumbered_all olds ts) ≡ instances (filled ctx sorts 0) ts
      sames_before none ss p h = refl
      sames_before (some t ts) [] p h = absurd p
      sames_before (some t ts) (s ∷ ss) p h =
          let a : instance ws (renumbered olds t) ≡ instance (filled ctx sorts 0) t = same_before t s p.0
          (λ n o. h n (inl o)) in
          let b : instances ws (renumbered_all olds ts) ≡ instances (filled ctx sorts 0) ts = sames_before ts ss
          p.1 (λ n o. h n (inr o)) in
          λ i. some (a i) (b i)

    abbrev AllMet : List Equation → Type 0
    AllMet es = (n : ℕ) → OccursAny n (trees_of (sides_of es)) → Met olds n

    hold_before : (es : List Equation) → Each spec.sig ctx es → AllMet es →
        AllHold spec ws (map (renumbered_equation olds) es) → AllHold spec (filled ctx sorts 0) es
    hold_before [] p v h = tt
    hold_before (e ∷ es) p v
        h = (
          (
            h.0.0,
            h.0.1,
            h.0.2,
            subst (λ u. Gives spec u h.0.0 h.0.1) (same_before e.left p.0.0 p.0.1 (λ n o. v n (inl o))) h.0.3,
            subst (λ u. Gives spec u h.0.0 h.0.2) (same_before e.right p.0.0 p.0.2 (λ n o. v n (inr (inl o))))
                h.0.4,
          ),
          hold_before es p.1 (λ n o. v n (inr (inr o))) h.1,
        )

    broken_before : (es : List Equation) → Each spec.sig ctx es → AllMet es →
        AllBroken spec ws (map (renumbered_equation olds) es) → AllBroken spec (filled ctx sorts 0) es
    broken_before [] p v h = tt
    broken_before (e ∷ es) p v h = (
      (
        h.0.0,
        h.0.1,
        h.0.2,
        h.0.3,
        h.0.4,
        subst (λ u. Gives spec u h.0.0 h.0.2) (same_before e.left p.0.0 p.0.1 (λ n o. v n (inl o))) h.0.5,
        subst (λ u. Gives spec u h.0.1 h.0.3) (same_before e.right p.0.0 p.0.2 (λ n o. v n (inr (inl o))))
            h.0.6,
      ),
      broken_before es p.1 (λ n o. v n (inr (inr o))) h.1,
    )

-- a failing instance of the tidied clause is one of the clause
pub untidied_fails : (spec : Spec) → IsWellSorted spec → (c : Clause) → ClauseIsSorted spec.sig c →
    (ws : List Tree) → ClauseFails spec (tidied c) ws → (ys : List Tree) × ClauseFails spec c ys
untidied_fails spec fine c sorted ws f = (
  filled spec fine c.ctx (variables_of c) ws f.values_fit c.ctx sorted.variables 0,
  record {
    values_fit = all_values spec fine c.ctx (variables_of c) ws f.values_fit sorted.variables;
    premises = hold_before spec fine c.ctx (variables_of c) ws f.values_fit sorted.variables c.premises
        (each_sorted spec.sig c.ctx c.premises sorted.premises)
        (λ n o. variables_met c n (any_in_first n (sides_of c.premises) (sides_of c.conclusions) o)) f.premises;
    conclusions = broken_before spec fine c.ctx (variables_of c) ws f.values_fit sorted.variables c.conclusions
        (each_sorted spec.sig c.ctx c.conclusions sorted.conclusions)
        (λ n o. variables_met c n (any_in_second n (sides_of c.premises) (sides_of c.conclusions) o)) f.conclusions;
  },
)

sorts_all : (sig : Sig) (vs : List VarInfo) → AllByRecursion (λ (v : VarInfo). IsSort sig v.sort) vs →
    AllByRecursion (IsSort sig) (sorts_of vs)
sorts_all sig [] h = tt
sorts_all sig (v ∷ vs) h = (h.0, sorts_all sig vs h.1)

written_sorted : (sig : Sig) (goal : Goal) → GoalIsSorted sig goal → ClauseIsSorted sig (written_clause goal)
written_sorted sig goal h = record {
  variables = sorts_all sig goal.vars h.variables;
  premises = h.premises;
  conclusions = h.conclusions;
}

pub goal_sorted : (sig : Sig) (goal : Goal) → GoalIsSorted sig goal → IsDeclared sig →
    ClauseIsSorted sig (goal_clause goal)
goal_sorted sig goal h d = keeps_sorts sig (written_clause goal) d (written_sorted sig goal h)

-- the clause of a true goal doesn't fail
pub true_holds : (spec : Spec) → IsWellSorted spec → NoOverlap spec → GroupsAreWhole spec → (goal : Goal) →
    GoalIsSorted spec.sig goal → GoalIsTrue spec goal → (ws : List Tree) → ClauseFails spec (goal_clause goal) ws → ⊥
true_holds spec fine apart whole goal sorted true_goal ws fails =
    let f = untidied_fails spec fine (written_clause goal) (written_sorted spec.sig goal sorted) ws fails in
    neither f.0 f.1.values_fit goal.conclusions (each_sorted spec.sig (sorts_of goal.vars) goal.conclusions
    sorted.conclusions) (true_goal f.0 f.1.values_fit f.1.premises) f.1.conclusions
  where
    neither : (ys : List Tree) → AreValuesOf spec (sorts_of goal.vars) ys → (es : List Equation) →
        Each spec.sig (sorts_of goal.vars) es → SomeHolds spec ys es → AllBroken spec ys es → ⊥
    neither ys v [] p h b = h
    neither ys v (e ∷ es) p (inl h) b =
        let l = one_under spec fine apart whole (sorts_of goal.vars) ys v e.left p.0.0 p.0.1 h.3 b.0.5 in
        let r = one_under spec fine apart whole (sorts_of goal.vars) ys v e.right p.0.0 p.0.2 h.4 b.0.6 in
        b.0.4 (sym l ∙ r)
    neither ys v (e ∷ es) p (inr h) b = neither ys v es p.1 h b.1
