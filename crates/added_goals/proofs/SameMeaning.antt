-- Specifications of one signature and the same rules give the same values.
use Rattle.std.proofs.Common.{◌≡◌, ℕ, List, [], ◌∷◌, Some, inl, inr, sym, subst}
use Rattle.std.specs.Prelude.{slice_get}
use Rattle.std.specs.List.{AllByRecursion}
use Rattle.term_core.specs.Tree.{Tree, Trees}
use Rattle.term_core.specs.declared.ids.SortId.{SortId}
use Rattle.spec_core.specs.declared.records.Equation.{Equation}
use Rattle.spec_core.specs.declared.records.Goal.{Goal}
use Rattle.spec_core.specs.declared.records.Guard.{Guard}
use Rattle.spec_core.specs.declared.records.Rule.{Rule}
use Rattle.spec_core.specs.declared.records.Spec.{Spec}
use Rattle.spec_core.specs.Sig.{Sig, IsConstructor}
use Rattle.spec_core.specs.Sorts.{IsBuilt, IsValue}
use Rattle.spec_core.specs.Gives.{Gives, GivesAll, GivesGuards, built, called, no_terms, more_terms, no_guards, more_guards}
use Rattle.spec_core.specs.Truth.{AllBroken, AllHold, AreValuesOf, EquationBroken, EquationHolds, GoalFails, GoalIsTrue, SomeHolds}
use Rattle.spec_core.specs.WellSorted.{sorts_of}
use Rattle.added_goals.specs.Additions.{AddsGoals}
use Rattle.added_goals.specs.Laws.{KeepsMeaning}

module _ (spec other : Spec) (sig : spec.sig ≡ other.sig) (rules : spec.rules ≡ other.rules) where
  mutual
    gives_too : {t v : Tree} {n : ℕ} → Gives spec t v n → Gives other t v n
    gives_too (built {f = f} is gs) = built (subst (λ (s : Sig). IsConstructor s f) sig is) (gives_all_too gs)
    gives_too (called number rule values gs at are fits guards result cost) =
        called number rule values (gives_all_too gs)
        (subst (λ (rs : List Rule). slice_get rs number ≡ Some rule) rules at)
        (subst (λ (s : Sig). AllByRecursion (IsBuilt s) values) sig are) fits (gives_guards_too guards)
        (gives_too result) cost

    gives_all_too : {ts vs : Trees} {n : ℕ} → GivesAll spec ts vs n → GivesAll other ts vs n
    gives_all_too no_terms = no_terms
    gives_all_too (more_terms g gs cost) = more_terms (gives_too g) (gives_all_too gs) cost

    gives_guards_too : {values : List Tree} {guards : List Guard} {n : ℕ} →
        GivesGuards spec values guards n → GivesGuards other values guards n
    gives_guards_too no_guards = no_guards
    gives_guards_too (more_guards g gs cost) = more_guards (gives_too g) (gives_guards_too gs) cost

  module _ (values : List Tree) where
    holds_too : (e : Equation) → EquationHolds spec values e → EquationHolds other values e
    holds_too e h = (h.0, h.1, h.2, gives_too h.3, gives_too h.4)

    broken_too : (e : Equation) → EquationBroken spec values e → EquationBroken other values e
    broken_too e h = (h.0, h.1, h.2, h.3, h.4, gives_too h.5, gives_too h.6)

    pub all_hold_too : (es : List Equation) → AllHold spec values es → AllHold other values es
    all_hold_too [] h = tt
    all_hold_too (e ∷ es) h = (holds_too e h.0, all_hold_too es h.1)

    pub some_holds_too : (es : List Equation) → SomeHolds spec values es → SomeHolds other values es
    some_holds_too [] h = h
    some_holds_too (e ∷ es) (inl h) = inl (holds_too e h)
    some_holds_too (e ∷ es) (inr h) = inr (some_holds_too es h)

    pub all_broken_too : (es : List Equation) → AllBroken spec values es → AllBroken other values es
    all_broken_too [] h = tt
    all_broken_too (e ∷ es) h = (broken_too e h.0, all_broken_too es h.1)

    pub fails_too : (goal : Goal) → GoalFails spec values goal → GoalFails other values goal
    fails_too goal h = (all_hold_too goal.premises h.0, all_broken_too goal.conclusions h.1)

  pub values_too : (sorts : List SortId) (values : List Tree) → AreValuesOf spec sorts values →
      AreValuesOf other sorts values
  values_too [] [] h = tt
  values_too [] (v ∷ vs) h = h
  values_too (s ∷ ss) [] h = h
  values_too (s ∷ ss) (v ∷ vs) h = (subst (λ (g : Sig). IsValue g s v) sig h.0, values_too ss vs h.1)

-- a goal that is true of one is true of the other
true_too : (spec other : Spec) → spec.sig ≡ other.sig → spec.rules ≡ other.rules → (goal : Goal) →
    GoalIsTrue spec goal → GoalIsTrue other goal
true_too spec other sig rules goal is =
    λ values are hold.
    some_holds_too spec other sig rules values goal.conclusions
    (is values (values_too other spec (sym sig) (sym rules) (sorts_of goal.vars) values are)
    (all_hold_too other spec (sym sig) (sym rules) values goal.premises hold))

pub keeps_meaning : (old new : Spec) → AddsGoals old new → KeepsMeaning old new
keeps_meaning old new adds = record {
  true = λ goal. (
    true_too new old adds.signature adds.rules goal,
    true_too old new (sym adds.signature) (sym adds.rules) goal,
  );
  values = λ sorts values. (
    values_too new old adds.signature adds.rules sorts values,
    values_too old new (sym adds.signature) (sym adds.rules) sorts values,
  );
  fails = λ goal values. (
    fails_too new old adds.signature adds.rules values goal,
    fails_too old new (sym adds.signature) (sym adds.rules) values goal,
  );
}
