-- What a term gives openly, it gives under any values of its variables.
use Rattle.std.proofs.Common.{◌≡◌, ℕ, ◌<◌, List, [], inl, inr, refl, ap, sym, ◌∙◌, subst}
use Rattle.std.specs.Prelude.{length}
use Rattle.std.specs.List.{AllByRecursion}
use Rattle.std.proofs.lemmas.List.Elements.{All-from_recursion}
use Rattle.term_core.specs.Tree.{Tree, Trees, var, app, none, some, instance, instances}
use Rattle.term_core.specs.Variables.{Occurs, OccursAny}
use Rattle.term_core.specs.declared.ids.SortId.{SortId}
use Rattle.term_core.proofs.Trees.{instance_none}
use Rattle.spec_core.specs.declared.records.Guard.{Guard}
use Rattle.spec_core.specs.declared.records.Spec.{Spec}
use Rattle.spec_core.specs.Sorts.{Sorted, IsBuilt, AreBuilt}
use Rattle.spec_core.specs.Declarations.{bool_sort}
use Rattle.spec_core.specs.WellSorted.{IsWellSorted, sorts_of}
use Rattle.spec_core.specs.Gives.{Gives, GivesAll, GivesGuards, boolean, built, called, no_terms, more_terms}
use Rattle.spec_core.specs.Gives.{no_guards, more_guards}
use Rattle.spec_core.proofs.Values.{built_gives}
use Rattle.spec_core.proofs.Determined.{occurs_within}
use Rattle.open_evaluation.specs.OpenGives.{IsOpen, AreOpen, VariablesAreBelow, HasNoVariable, OpenGives, OpenGivesAll}
use Rattle.open_evaluation.specs.OpenGives.{OpenGivesGuards, unknown, open_built, open_called, no_open_terms}
use Rattle.open_evaluation.specs.OpenGives.{more_open_terms, no_open_guards, more_open_guards}
use Rattle.open_evaluation.proofs.Occurring.{below_entry, below_by_left}
use Rattle.open_evaluation.proofs.Entries.{choose, all_entries}
use Rattle.open_evaluation.proofs.OpenValues.{entry_open, keep_below}

mutual
  -- an instance of an instance, by entries that are instances of entries
  pub instance_twice : (ys xs zs : List Tree) (t : Tree) →
      ((k : ℕ) → Occurs k t → instance ys (var k) ≡ instance xs (instance zs (var k))) →
      instance ys t ≡ instance xs (instance zs t)
  instance_twice ys xs zs (var k) h = h k refl
  instance_twice ys xs zs (app f ts) h = ap (λ us. app f us) (instances_twice ys xs zs ts h)

  instances_twice : (ys xs zs : List Tree) (ts : Trees) →
      ((k : ℕ) → OccursAny k ts → instance ys (var k) ≡ instance xs (instance zs (var k))) →
      instances ys ts ≡ instances xs (instances zs ts)
  instances_twice ys xs zs none h = refl
  instances_twice ys xs zs (some t ts) h =
      let p : instance ys t ≡ instance xs (instance zs t) = instance_twice ys xs zs t (λ k o. h k (inl o)) in
      let q : instances ys ts ≡ instances xs (instances zs ts) = instances_twice ys xs zs ts (λ k o. h k (inr o)) in
      cc

module _ (spec : Spec) (fine : IsWellSorted spec) (xs : List Tree)
    (values_built : AllByRecursion (IsBuilt spec.sig) xs) where
  mutual
    open_instance : (t : Tree) → IsOpen spec.sig t → VariablesAreBelow (length xs) t → IsBuilt spec.sig (instance xs t)
    open_instance (var k) o h = All-from_recursion (IsBuilt spec.sig) xs values_built k (var k) (h k refl)
    open_instance (app f ts) o h = (o.0, open_instances ts o.1 h)

    open_instances : (ts : Trees) → AreOpen spec.sig ts → ((k : ℕ) → OccursAny k ts → k < length xs) →
        AreBuilt spec.sig (instances xs ts)
    open_instances none o h = tt
    open_instances (some t ts) o h = (
      open_instance t o.0 (λ k p. h k (inl p)),
      open_instances ts o.1 (λ k p. h k (inr p)),
    )

  -- the entry of a rule's variable: the value of what stands for it
  abbrev IsValueOf : List Tree → ℕ → Tree → Type 0
  IsValueOf zs k x = (x ≡ instance xs (instance zs (var k))) × IsBuilt spec.sig x

  mutual
    -- a rule that is used at an open call is used at its instance, under the instances of the entries
    pub gives_under : {t v : Tree} {n : ℕ} → OpenGives spec t v n → VariablesAreBelow (length xs) t →
        Gives spec (instance xs t) (instance xs v) n
    gives_under (unknown {k}) h = built_gives spec (instance xs (var k)) (open_instance (var k) tt h)
    gives_under (open_built c all) h = built c (give_under all h)
    gives_under (open_called {f} {vs} {v} {k} number rule zs all at bs is gs right cost) h =
        let here = fine.rules number rule at in
        let ctx = sorts_of rule.vars in
        let kept : VariablesAreBelow (length xs) (app f vs) = keep_below spec fine (length xs) all h in
        let left : VariablesAreBelow (length xs) (instance zs rule.left) = subst (VariablesAreBelow (length xs))
        (sym is) kept in
        let keep = below_by_left spec.sig rule here (length xs) zs left in
        let entries = choose (length ctx) (IsValueOf zs) (λ j w. (
          instance xs (instance zs (var j)),
          (
            refl,
            open_instance (instance zs (var j)) (entry_open spec.sig zs j (var j) bs tt)
                (below_entry (length xs) zs rule.left left j (here.bound j w)),
          ),
        )) in
        let ys = entries.items in
        let same : (t : Tree) (s : SortId) → Sorted spec.sig ctx t s →
        instance ys t ≡ instance xs (instance zs t) = λ t s p. instance_twice ys xs zs t
        (λ j o. (entries.each j (var j) (occurs_within spec.sig ctx t s p j o)).0) in
        let match : instance ys rule.left ≡ app f (instances xs vs) = same rule.left here.sides.0 here.sides.1
        ∙ ap (λ t. instance xs t) is in
        called number rule ys (give_under all h) at (all_entries (length ctx) (IsValueOf zs) (IsBuilt spec.sig)
        entries (λ j x p. p.1)) match (guards_under gs ys ctx here.guards same keep)
        (subst (λ t. Gives spec t (instance xs v) k) (sym (same rule.right here.sides.0 here.sides.2))
        (gives_under right (keep rule.right here.sides.0 here.sides.2))) cost

    give_under : {ts vs : Trees} {n : ℕ} → OpenGivesAll spec ts vs n →
        ((k : ℕ) → OccursAny k ts → k < length xs) → GivesAll spec (instances xs ts) (instances xs vs) n
    give_under no_open_terms h = no_terms
    give_under (more_open_terms one more cost) h = more_terms (gives_under one (λ k o. h k (inl o)))
        (give_under more (λ k o. h k (inr o))) cost

    guards_under : {zs : List Tree} {gs : List Guard} {n : ℕ} → OpenGivesGuards spec zs gs n →
        (ys : List Tree) (ctx : List SortId) →
        AllByRecursion (λ (g : Guard). Sorted spec.sig ctx g.test bool_sort) gs →
        ((t : Tree) (s : SortId) → Sorted spec.sig ctx t s → instance ys t ≡ instance xs (instance zs t)) →
        ((t : Tree) (s : SortId) → Sorted spec.sig ctx t s → VariablesAreBelow (length xs) (instance zs t)) →
        GivesGuards spec ys gs n
    guards_under no_open_guards ys ctx sorted same keep = no_guards
    guards_under (more_open_guards {guard} {n} one more cost) ys ctx sorted same keep =
        more_guards (subst (λ t. Gives spec t (boolean guard.wanted) n)
        (sym (same guard.test bool_sort sorted.0)) (gives_under one (keep guard.test bool_sort sorted.0)))
        (guards_under more ys ctx sorted.1 same keep) cost

-- a term without variables gives by evaluation what it gives openly
pub gives_closed : (spec : Spec) → IsWellSorted spec → (t v : Tree) (n : ℕ) → HasNoVariable t →
    OpenGives spec t v n → Gives spec t v n
gives_closed spec fine t v n h g =
    let under : Gives spec (instance [] t) (instance [] v) n = gives_under spec fine [] tt g (λ k o. absurd (h k o)) in
    rw (← instance_none t, ← instance_none v) under
