-- Values with names, one by one and as a list; and values that are built from constructors.
use Rattle.std.proofs.Common.{◌≡◌, ◌⊎◌, ℕ, zero, suc, ◌+◌, ◌<◌, List, [], ◌∷◌, inl, inr, refl, sym, ◌∙◌, ap, subst}
use Rattle.std.proofs.Common.{arith, length, get_or, take}
use Rattle.std.specs.Prelude.{Some, None, slice_get}
use Rattle.std.proofs.lemmas.List.{length-map}
use Rattle.term_core.specs.Tree.{Tree, trees_of}
use Rattle.spec_core.specs.declared.records.Goal.{Goal}
use Rattle.spec_core.specs.declared.records.Spec.{Spec}
use Rattle.spec_core.specs.declared.records.VarInfo.{VarInfo}
use Rattle.spec_core.specs.Sig.{Sig}
use Rattle.spec_core.specs.Sorts.{IsValue, IsBuilt, AreBuilt}
use Rattle.spec_core.specs.TermText.{variable_names}
use Rattle.spec_core.specs.Truth.{AreValuesOf}
use Rattle.spec_core.specs.WellSorted.{sorts_of}
use Rattle.acceptance.specs.Accepting.{NamedValues, AreNamedValues, names_in, values_in}
use Rattle.replay_check.specs.NamedValues.{IsNamedValue}

-- each of the values before this place is one of the variable of its place
abbrev pub AreNamedBefore : Spec → List VarInfo → NamedValues → ℕ → Type 0
AreNamedBefore spec vars values n = (k : ℕ) (v : VarInfo) (named : List ℕ × Tree) → k < n →
    slice_get vars k ≡ Some v → slice_get values k ≡ Some named → IsNamedValue spec.sig v named

pub named_more : (spec : Spec) (vars : List VarInfo) (values : NamedValues) (i : ℕ) (v : VarInfo)
    (named : List ℕ × Tree) → slice_get vars i ≡ Some v → slice_get values i ≡ Some named →
    AreNamedBefore spec vars values i → IsNamedValue spec.sig v named → AreNamedBefore spec vars values (i + 1)
named_more spec vars values i v named at there before here k w other lt get found = elim (before_or_at k i lt) [
  | inl l ↦ before k w other l get found
  | inr e ↦ (
      let p : Some v ≡ Some w = sym at ∙ subst (λ j. slice_get vars j ≡ Some w) e get in
      let q : Some named ≡ Some other = sym there ∙ subst (λ j. slice_get values j ≡ Some other) e found in
      let a : v ≡ w = cc in
      let b : named ≡ other = cc in
      subst (λ x. IsNamedValue spec.sig x other) a (subst (λ x. IsNamedValue spec.sig v x) b here)
      )
]
  where
    before_or_at : (k i : ℕ) → k < i + 1 → (k < i) ⊎ (k ≡ i)
    before_or_at k i lt = grind arith

module _ (spec : Spec) where
  names_all : (vars : List VarInfo) (values : NamedValues) → length vars ≡ length values →
      AreNamedBefore spec vars values (length values) → names_in values ≡ variable_names vars
  names_all [] [] long each = refl
  names_all [] (n ∷ values) long each = absurd (omega (arith, long))
  names_all (v ∷ vars) [] long each = absurd (omega (arith, long))
  names_all (v ∷ vars) (n ∷ values) long each =
      let e = (each 0 v n (omega arith) refl refl).0 in
      let r = names_all vars values (omega (arith, long)) (λ k w m lt. each (suc k) w m (omega (arith, lt))) in
      λ i. e i ∷ r i

  sorts_all : (vars : List VarInfo) (values : NamedValues) → length vars ≡ length values →
      AreNamedBefore spec vars values (length values) → AreValuesOf spec (sorts_of vars) (values_in values)
  sorts_all [] [] long each = tt
  sorts_all [] (n ∷ values) long each = absurd (omega (arith, long))
  sorts_all (v ∷ vars) [] long each = absurd (omega (arith, long))
  sorts_all (v ∷ vars) (n ∷ values) long each = (
    (each 0 v n (omega arith) refl refl).1,
    sorts_all vars values (omega (arith, long)) (λ k w m lt. each (suc k) w m (omega (arith, lt))),
  )

  name_at : (vars : List VarInfo) (values : NamedValues) (k : ℕ) (v : VarInfo) (n : List ℕ × Tree) →
      names_in values ≡ variable_names vars → slice_get vars k ≡ Some v → slice_get values k ≡ Some n → n.0 ≡ v.name
  name_at [] values k v n names at there = absurd (let q : None ≡ Some v = at in cc)
  name_at (w ∷ vars) [] k v n names at there = absurd (let q : None ≡ Some n = there in cc)
  name_at (w ∷ vars) (m ∷ values) zero v n names at there =
      let p : Some w ≡ Some v = at in
      let q : Some m ≡ Some n = there in
      let e : w ≡ v = cc in
      let h : m ≡ n = cc in
      let r : m.0 ∷ names_in values ≡ w.name ∷ variable_names vars = names in
      let s : m.0 ≡ w.name = cc in
      ap (λ (x : List ℕ × Tree). x.0) (sym h) ∙ s ∙ ap (λ (x : VarInfo). x.name) e
  name_at (w ∷ vars) (m ∷ values) (suc k) v n names at there =
      let r : m.0 ∷ names_in values ≡ w.name ∷ variable_names vars = names in
      let s : names_in values ≡ variable_names vars = cc in
      name_at vars values k v n s at there

  value_at : (vars : List VarInfo) (values : NamedValues) (k : ℕ) (v : VarInfo) (n : List ℕ × Tree) →
      AreValuesOf spec (sorts_of vars) (values_in values) → slice_get vars k ≡ Some v →
      slice_get values k ≡ Some n → n.0 ≡ v.name → IsNamedValue spec.sig v n
  value_at [] values k v n are at there named = absurd (let q : None ≡ Some v = at in cc)
  value_at (w ∷ vars) [] k v n are at there named = absurd are
  value_at (w ∷ vars) (m ∷ values) zero v n are at there named =
      let p : Some w ≡ Some v = at in
      let q : Some m ≡ Some n = there in
      let e : w ≡ v = cc in
      let h : m ≡ n = cc in (
        named,
        subst (λ (x : VarInfo). IsValue spec.sig x.sort n.1) e
            (subst (λ (x : List ℕ × Tree). IsValue spec.sig w.sort x.1) h are.0),
      )
  value_at (w ∷ vars) (m ∷ values) (suc k) v n are at there named = value_at vars values k v n are.1 at there named

  pub all_named : (goal : Goal) (values : NamedValues) → length goal.vars ≡ length values →
      AreNamedBefore spec goal.vars values (length values) → AreNamedValues spec goal values
  all_named goal values long each = record {
    names = names_all goal.vars values long each;
    sorts = sorts_all
        goal.vars values long each;
  }

  pub each_named : (goal : Goal) (values : NamedValues) → AreNamedValues spec goal values →
      (k : ℕ) (v : VarInfo) (n : List ℕ × Tree) → slice_get goal.vars k ≡ Some v → slice_get values k ≡ Some n →
      IsNamedValue spec.sig v n
  each_named goal values are k v n at there = value_at goal.vars values k v n are.sorts at there
      (name_at goal.vars values k v n are.names at there)

  pub as_many : (goal : Goal) (values : NamedValues) → AreNamedValues spec goal values →
      length goal.vars ≡ length values
  as_many goal values are = sym (length-map goal.vars (λ (v : VarInfo). v.name)) ∙ sym (ap length are.names)
      ∙ length-map values (λ (v : List ℕ × Tree). v.0)

module _ (sig : Sig) where
  pub built_here : (ts : List Tree) (i : ℕ) (t : Tree) → i < length ts → t ≡ get_or ts i t →
      AreBuilt sig (trees_of ts) → IsBuilt sig t
  built_here [] i t lt is h = absurd (omega arith)
  built_here (u ∷ us) zero t lt is h = subst (λ x. IsBuilt sig x) (sym is) h.0
  built_here (u ∷ us) (suc i) t lt is h = built_here us i t (omega arith) is h.1

  pub built_more : (ts : List Tree) (i : ℕ) (t : Tree) → i < length ts → t ≡ get_or ts i t →
      AreBuilt sig (trees_of (take i ts)) → IsBuilt sig t → AreBuilt sig (trees_of (take (suc i) ts))
  built_more [] i t lt is before p = absurd (omega arith)
  built_more (u ∷ us) zero t lt is before p = (subst (λ x. IsBuilt sig x) is p, tt)
  built_more (u ∷ us) (suc i) t lt is before p = (before.0, built_more us i t (omega arith) is before.1 p)
