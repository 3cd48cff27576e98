-- Goals without failing instances are true, if each term has a value; and goals whose verdict is Fails do fail.
use Rattle.std.proofs.Common.{◌≡◌, ◌⊎◌, ℕ, List, [], ◌∷◌, inl, inr, sym, subst}
use Rattle.std.specs.List.{AllByRecursion}
use Rattle.term_core.specs.Tree.{Tree, var, instance}
use Rattle.term_core.specs.declared.ids.SortId.{SortId}
use Rattle.spec_core.specs.declared.records.Equation.{Equation}
use Rattle.spec_core.specs.declared.records.Goal.{Goal}
use Rattle.spec_core.specs.declared.records.Spec.{Spec}
use Rattle.spec_core.specs.declared.records.VarInfo.{VarInfo}
use Rattle.spec_core.specs.declared.records.Verdict.TheVariants.{Holds, Fails, Spent}
use Rattle.spec_core.specs.Sig.{Sig, IsSort}
use Rattle.spec_core.specs.Sorts.{Sorted}
use Rattle.spec_core.specs.Gives.{Gives}
use Rattle.spec_core.specs.Truth.{EquationHolds, EquationBroken, AllHold, AllBroken, SomeHolds, AreValuesOf, GoalFails}
use Rattle.spec_core.specs.Truth.{GoalIsTrue}
use Rattle.spec_core.specs.Verdict.{ConclusionsSay, PremisesSay, IsVerdict}
use Rattle.spec_core.specs.WellSorted.{sorts_of, GoalIsSorted}
use Rattle.spec_core.proofs.Instances.{sorted_instance}
use Rattle.clause_core.specs.Clauses.{ClauseIsSorted}
use Rattle.clause_core.specs.Tidied.{written_clause}
use Rattle.clause_core.specs.Failing.{ClauseFails}
use Rattle.descent.proofs.Closers.{value_of}
use Rattle.term_core.proofs.SameTrees.{same_tree_or_not}
use Rattle.descent.proofs.SortedEquations.{Each, each_sorted}

sorts_in : (sig : Sig) (vars : List VarInfo) → AllByRecursion (λ (v : VarInfo). IsSort sig v.sort) vars →
    AllByRecursion (IsSort sig) (sorts_of vars)
sorts_in sig [] p = tt
sorts_in sig (v ∷ vs) p = (p.0, sorts_in sig vs p.1)

-- the clause of a sorted goal is sorted
pub written_sorted : (sig : Sig) (goal : Goal) → GoalIsSorted sig goal → ClauseIsSorted sig (written_clause goal)
written_sorted sig goal p = record {
  variables = sorts_in sig goal.vars p.variables;
  premises = p.premises;
  conclusions = p.conclusions;
}

-- each sorted term without variables has a value
abbrev pub HaveValues : Spec → Type 0
HaveValues spec = (t : Tree) (s : SortId) → Sorted spec.sig [] t s → (v : Tree) × (n : ℕ) × Gives spec t v n

module _ (spec : Spec) (valued : HaveValues spec) where
  -- an equation holds or is broken, since each side has a value
  holds_or_broken : (ctx : List SortId) (xs : List Tree) → AreValuesOf spec ctx xs → (e : Equation) →
      (s : SortId) × Sorted spec.sig ctx e.left s × Sorted spec.sig ctx e.right s → EquationHolds spec xs e
      ⊎ EquationBroken spec xs e
  holds_or_broken ctx xs values e (s, l, r) =
      let under : (t : Tree) → Sorted spec.sig ctx t s →
      Sorted spec.sig [] (instance xs t) s = λ t p. sorted_instance spec.sig ctx t s xs p
      (λ n u at. (value_of spec ctx xs values n u at (var n)).0) in
      let a = valued (instance xs e.left) s (under e.left l) in
      let b = valued (instance xs e.right) s (under e.right r) in
      elim (same_tree_or_not a.0 b.0) [
        | inl q ↦ inl (a.0, a.1, b.1, a.2, subst (λ w. Gives spec (instance xs e.right) w b.1) (sym q) b.2)
        | inr q ↦ inr (a.0, b.0, a.1, b.1, q, a.2, b.2)
      ]

  some_or_all : (ctx : List SortId) (xs : List Tree) → AreValuesOf spec ctx xs → (es : List Equation) →
      Each spec.sig ctx es → SomeHolds spec xs es ⊎ AllBroken spec xs es
  some_or_all ctx xs values [] p = inr tt
  some_or_all ctx xs values (e ∷ es) p =
      elim (holds_or_broken ctx xs values e p.0) [
        | inl h ↦ inl (inl h)
        | inr b ↦ elim (some_or_all ctx xs values es p.1) [ inl h ↦ inl (inr h) | inr bs ↦ inr (b, bs) ]
      ]

  pub true_goal : (goal : Goal) → GoalIsSorted spec.sig goal →
      ((xs : List Tree) → ClauseFails spec (written_clause goal) xs → ⊥) → GoalIsTrue spec goal
  true_goal goal p none = λ xs values holds.
      elim (some_or_all (sorts_of goal.vars) xs values goal.conclusions
      (each_sorted spec.sig (sorts_of goal.vars) goal.conclusions p.conclusions)) [
        | inl h ↦ h
        | inr b ↦ absurd (none xs (record { values_fit = values; premises = holds; conclusions = b }))
      ]

module _ (spec : Spec) (values : List Tree) (budget : ℕ) where
  conclusions_fail : (es : List Equation) → ConclusionsSay spec values budget es Fails → AllBroken spec values es
  conclusions_fail [] h = tt
  conclusions_fail (e ∷ es) (inl (h, q)) = absurd (let z : Fails ≡ Spent = q in cc)
  conclusions_fail (e ∷ es) (inr (inl (h, q))) = absurd (let z : Fails ≡ Holds = q in cc)
  conclusions_fail (e ∷ es) (inr (inr ((v, w, ne, l, r), h))) = ((v, w, l.0, r.0, ne, l.1, r.1), conclusions_fail es h)

  premises_hold : (es cs : List Equation) → PremisesSay spec values budget es cs Fails → AllHold spec values es
      × AllBroken spec values cs
  premises_hold [] cs h = (tt, conclusions_fail cs h)
  premises_hold (e ∷ es) cs (inl (h, q)) = absurd (let z : Fails ≡ Spent = q in cc)
  premises_hold (e ∷ es) cs (inr (inl (h, q))) = absurd (let z : Fails ≡ Holds = q in cc)
  premises_hold (e ∷ es) cs (inr (inr ((v, l, r), h))) = let p = premises_hold es cs h in
      ((((v, l.0, r.0, l.1, r.1)), p.0), p.1)

  -- a goal whose verdict is Fails fails
  pub verdict_fails : (goal : Goal) → IsVerdict spec values budget goal Fails → GoalFails spec values goal
  verdict_fails goal h = premises_hold goal.premises goal.conclusions h
