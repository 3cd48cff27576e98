-- What evaluation gives is open, its variables are those of the term, and a term without variables gives what it gives by
-- evaluation.
use Rattle.std.proofs.Common.{ℕ, zero, suc, ◌<◌, List, [], ◌∷◌, inl, inr, sym, subst, get_or}
use Rattle.std.specs.List.{AllByRecursion}
use Rattle.term_core.specs.Tree.{Tree, Trees, var, app, none, some, instance}
use Rattle.term_core.specs.Variables.{OccursAny}
use Rattle.spec_core.specs.declared.records.Guard.{Guard}
use Rattle.spec_core.specs.declared.records.Spec.{Spec}
use Rattle.spec_core.specs.Sig.{Sig}
use Rattle.spec_core.specs.Sorts.{IsBuilt, AreBuilt}
use Rattle.spec_core.specs.WellSorted.{IsWellSorted}
use Rattle.spec_core.specs.Gives.{Gives, GivesAll, GivesGuards, built, called, no_terms, more_terms, no_guards}
use Rattle.spec_core.specs.Gives.{more_guards}
use Rattle.open_evaluation.specs.OpenGives.{IsOpen, AreOpen, VariablesAreBelow, OpenGives, OpenGivesAll}
use Rattle.open_evaluation.specs.OpenGives.{OpenGivesGuards, unknown, open_built, open_called, no_open_terms}
use Rattle.open_evaluation.specs.OpenGives.{more_open_terms, no_open_guards, more_open_guards}
use Rattle.open_evaluation.proofs.Occurring.{below_by_left}

module _ (sig : Sig) where
  mutual
    pub built_open : (t : Tree) → IsBuilt sig t → IsOpen sig t
    built_open (var n) b = absurd b
    built_open (app f ts) b = (b.0, built_all_open ts b.1)

    built_all_open : (ts : Trees) → AreBuilt sig ts → AreOpen sig ts
    built_all_open none b = tt
    built_all_open (some t ts) b = (built_open t b.0, built_all_open ts b.1)

  pub all_built_open : (xs : List Tree) → AllByRecursion (IsBuilt sig) xs → AllByRecursion (IsOpen sig) xs
  all_built_open [] b = tt
  all_built_open (x ∷ xs) b = (built_open x b.0, all_built_open xs b.1)

  -- what stands for a variable is open if the entries are
  pub entry_open : (xs : List Tree) (n : ℕ) (d : Tree) → AllByRecursion (IsOpen sig) xs → IsOpen sig d →
      IsOpen sig (get_or xs n d)
  entry_open [] n d b o = o
  entry_open (x ∷ xs) zero d b o = b.0
  entry_open (x ∷ xs) (suc n) d b o = entry_open xs n d b.1 o

module _ (spec : Spec) where
  mutual
    pub gives_open : {t v : Tree} {n : ℕ} → OpenGives spec t v n → IsOpen spec.sig v
    gives_open unknown = tt
    gives_open (open_built c all) = (c, give_open all)
    gives_open (open_called number rule values all at bs is gs right cost) = gives_open right

    pub give_open : {ts vs : Trees} {n : ℕ} → OpenGivesAll spec ts vs n → AreOpen spec.sig vs
    give_open no_open_terms = tt
    give_open (more_open_terms one more cost) = (gives_open one, give_open more)

  mutual
    -- what a term gives, it gives openly
    pub opens : {t v : Tree} {n : ℕ} → Gives spec t v n → OpenGives spec t v n
    opens (built c all) = open_built c (opens_all all)
    opens (called number rule values all at bs is gs right cost) = open_called number rule values
        (opens_all all) at (all_built_open spec.sig values bs) is (opens_guards gs) (opens right) cost

    opens_all : {ts vs : Trees} {n : ℕ} → GivesAll spec ts vs n → OpenGivesAll spec ts vs n
    opens_all no_terms = no_open_terms
    opens_all (more_terms one more cost) = more_open_terms (opens one) (opens_all more) cost

    opens_guards : {values : List Tree} {gs : List Guard} {n : ℕ} → GivesGuards spec values gs n →
        OpenGivesGuards spec values gs n
    opens_guards no_guards = no_open_guards
    opens_guards (more_guards one more cost) = more_open_guards (opens one) (opens_guards more) cost

module _ (spec : Spec) (fine : IsWellSorted spec) (n : ℕ) where
  mutual
    -- evaluation brings in no variable
    pub keeps_below : {t v : Tree} {m : ℕ} → OpenGives spec t v m → VariablesAreBelow n t → VariablesAreBelow n v
    keeps_below unknown h = h
    keeps_below (open_built c all) h = keep_below all h
    keeps_below (open_called {f} {vs} number rule values all at bs is gs right cost) h =
        let here = fine.rules number rule at in
        let kept : VariablesAreBelow n (app f vs) = keep_below all h in
        let left : VariablesAreBelow n (instance values rule.left) = subst (VariablesAreBelow n) (sym is) kept in
        keeps_below right (below_by_left spec.sig rule here n values left rule.right here.sides.0 here.sides.2)

    pub keep_below : {ts vs : Trees} {m : ℕ} → OpenGivesAll spec ts vs m → ((k : ℕ) → OccursAny k ts → k < n) →
        (k : ℕ) → OccursAny k vs → k < n
    keep_below no_open_terms h k o = absurd o
    keep_below (more_open_terms one more cost) h k (inl o) = keeps_below one (λ j p. h j (inl p)) k o
    keep_below (more_open_terms one more cost) h k (inr o) = keep_below more (λ j p. h j (inr p)) k o
