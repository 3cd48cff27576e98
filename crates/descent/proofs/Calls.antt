-- A call with values has a value, if each sorted ground term that measures less has one: some left side matches it, the
use Rattle.std.proofs.Common.{◌≡◌, ℕ, ◌+◌, ◌<◌, List, [], ◌∷◌, Some, sym, ◌∙◌, subst, arith, length, map}
use Rattle.std.specs.Prelude.{slice_get}
use Rattle.std.specs.List.{AllByRecursion, range_with_len}
use Rattle.std.proofs.lemmas.List.FromFn.{get_or-map-range_with_len, length-map-range_with_len}
use Rattle.term_core.specs.Tree.{Tree, Trees, var, app, instance}
use Rattle.term_core.specs.Contexts.{Context, hole, plug}
use Rattle.term_core.specs.Variables.{Numbered}
use Rattle.term_core.specs.declared.ids.SortId.{SortId}
use Rattle.term_core.proofs.Instances.{same_instance}
use Rattle.spec_core.specs.declared.records.Rule.{Rule}
use Rattle.spec_core.specs.declared.records.Guard.{Guard}
use Rattle.spec_core.specs.declared.records.Spec.{Spec}
use Rattle.spec_core.specs.Sig.{IsConstructor}
use Rattle.spec_core.specs.Sorts.{Sorted, AreBuilt}
use Rattle.spec_core.specs.Gives.{Gives, GivesGuards}
use Rattle.spec_core.specs.Declarations.{bool_sort}
use Rattle.spec_core.specs.WellSorted.{sorts_of, IsShallow, RuleIsSorted, IsWellSorted}
use Rattle.spec_core.proofs.Keeps.{keeps}
use Rattle.spec_core.proofs.Determined.{occurs_within, sorted_by_left}
use Rattle.spec_core.proofs.Guarded.{call_makes}
use Rattle.clause_core.specs.Admitted.{IsAdmitted, GuardIsOrdered}
use Rattle.clause_core.specs.Ranks.{IsGround}
use Rattle.descent.proofs.GroundTerms.{sorted_ground}
use Rattle.descent.proofs.InContexts.{plug_ground}
use Rattle.descent.proofs.Measures.{IsMeasure}
use Rattle.descent.proofs.Arguments.{HasValue}
use Rattle.descent.proofs.WholeGroups.{Member, from_group, HasBoolean, choose}
use Rattle.spec_core.proofs.BooleanValues.{value_boolean}

-- tests of its group measure less than the call, so one member's guards hold, and its right side measures less too.

-- the first entries, as many as this
abbrev first_entries : ℕ → List Tree → List Tree
first_entries count xs = map (λ n. instance xs (var n)) (range_with_len 0 count)

entry_is : (count : ℕ) (xs : List Tree) (n : ℕ) → n < count →
    instance (first_entries count xs) (var n) ≡ instance xs (var n)
entry_is count xs n l = get_or-map-range_with_len (λ k. instance xs (var k)) 0 count n n (var n) l (omega arith)

-- a rule, and entries for its variables under which its left side is the call
record Match (spec : Spec) (call : Tree) : Type 0 where
  pub number : ℕ
  pub rule : Rule
  pub listed : slice_get spec.rules number ≡ Some rule
  pub entries : List Tree
  pub numbered : Numbered 0 rule.left (length entries)
  pub is : instance entries rule.left ≡ call

-- a rule of the same left side
abbrev of_its_group : (spec : Spec) (call : Tree) (m : Match spec call) {gs : List Guard} →
    Member m.rule.left spec.rules gs → Match spec call
of_its_group spec call m q = record {
  number = q.number;
  rule = q.rule;
  listed = q.listed;
  entries = m.entries;
  numbered = subst (λ t. Numbered 0 t (length m.entries)) q.is m.numbered;
  is = subst (λ t. instance m.entries t ≡ call) q.is m.is;
}

module _ (above : Tree → Tree → Type 0) (spec : Spec) (fine : IsWellSorted spec)
    (admitted : IsAdmitted above spec) (measure : Tree → ℕ) (falls : IsMeasure above spec measure) where
  module _ (f : ℕ) (vs : Trees) (s : SortId) (sorted : Sorted spec.sig [] (app f vs) s)
      (values : AreBuilt spec.sig vs) (below : (t : Tree) (u : SortId) → Sorted spec.sig [] t u →
      measure t < measure (app f vs) → HasValue spec measure t) where
    well_sorted : (m : Match spec (app f vs)) → RuleIsSorted spec.sig m.rule
    well_sorted m = fine.rules m.number m.rule m.listed

    -- an instance of a term over the rule's variables is sorted and ground
    part_sorted : (m : Match spec (app f vs)) (t : Tree) (u : SortId) →
        Sorted spec.sig (sorts_of m.rule.vars) t u → Sorted spec.sig [] (instance m.entries t) u
    part_sorted m t u p = sorted_by_left spec.sig m.rule s m.entries (well_sorted m)
        (subst (λ x. Sorted spec.sig [] x s) (sym m.is) sorted) t u p

    part_ground : (m : Match spec (app f vs)) (t : Tree) (u : SortId) →
        Sorted spec.sig (sorts_of m.rule.vars) t u → (c : Context) → IsGround spec (plug c (app f vs)) →
        IsGround spec (plug c (instance m.entries t))
    part_ground m t u p c g = plug_ground (length spec.sig.table) c (app f vs) (instance m.entries t) g
        (sorted_ground spec.sig fine.arities (instance m.entries t) u (part_sorted m t u p))

    -- it measures less than the call if the left side is above it, and so it has a value
    part_less : (m : Match spec (app f vs)) (t : Tree) (u : SortId) →
        Sorted spec.sig (sorts_of m.rule.vars) t u → above m.rule.left t → IsShallow t → (c : Context) →
        IsGround spec (plug c (app f vs)) → measure (plug c (instance m.entries t)) < measure (plug c (app f vs))
    part_less m t u p a d c g = subst (λ x. measure (plug c (instance m.entries t)) < measure (plug c x)) m.is
        (falls.in_contexts m.rule.left t m.entries c a d (subst (λ x. IsGround spec (plug c x)) (sym m.is) g)
        (part_ground m t u p c g))

    part_value : (m : Match spec (app f vs)) (t : Tree) (u : SortId) →
        Sorted spec.sig (sorts_of m.rule.vars) t u → above m.rule.left t → IsShallow t →
        HasValue spec measure (instance m.entries t)
    part_value m t u p a d = below (instance m.entries t) u (part_sorted m t u p)
        (part_less m t u p a d hole (sorted_ground spec.sig fine.arities (app f vs) s sorted))

    -- each test gives a Boolean
    tests_have : (m : Match spec (app f vs)) (gs : List Guard) →
        AllByRecursion (λ (g : Guard). Sorted spec.sig (sorts_of m.rule.vars) g.test bool_sort) gs →
        AllByRecursion (GuardIsOrdered above m.rule.left) gs →
        AllByRecursion (λ (g : Guard). IsShallow g.test) gs → AllByRecursion (HasBoolean spec m.entries) gs
    tests_have m [] p a d = tt
    tests_have m (g ∷ gs) p a d =
        let v = part_value m g.test bool_sort p.0 a.0.0 d.0 in
        let b = value_boolean spec.sig fine.signature v.value
        (keeps spec fine v.gives bool_sort (part_sorted m g.test bool_sort p.0)) in (
          (b.0, v.cost, subst (λ x. Gives spec (instance m.entries g.test) x v.cost) b.1 v.gives),
          tests_have m gs p.1 a.1 d.1,
        )

    guards_have : (m : Match spec (app f vs)) → AllByRecursion (HasBoolean spec m.entries) m.rule.guards
    guards_have m = tests_have m m.rule.guards (well_sorted m).guards
        (admitted.ordered m.number m.rule m.listed).guards (well_sorted m).shallow_guards

    -- the call's value by a rule whose guards hold
    value_by : (m : Match spec (app f vs)) (n : ℕ) → GivesGuards spec m.entries m.rule.guards n →
        HasValue spec measure (app f vs)
    value_by m n hold =
        let sides = (well_sorted m).sides in
        let ordered = admitted.ordered m.number m.rule m.listed in
        let right = part_value m m.rule.right sides.0 sides.2 ordered.right (well_sorted m).shallow_right in
        record {
          value = right.value;
          cost = 1 + n + right.cost;
          gives = call_makes spec fine f vs m.number m.rule m.entries values m.listed m.numbered m.is hold
              {v = right.value} {n = right.cost} right.gives;
          lower = λ c g. omega (
            arith,
            part_less m m.rule.right sides.0 sides.2 ordered.right (well_sorted m).shallow_right c g,
            right.lower c (part_ground m m.rule.right sides.0 sides.2 c g),
          );
        }

    -- the call's value by the rule of a group whose guards hold
    value_in_group : Match spec (app f vs) → HasValue spec measure (app f vs)
    value_in_group m =
        let chosen = choose spec m.entries (admitted.whole m.number m.rule m.listed) (λ k gs i.
        let q = from_group m.rule.left spec.rules 0 (k, gs) i in
        subst (λ hs. AllByRecursion (HasBoolean spec m.entries) hs) (sym q.guards)
        (guards_have (of_its_group spec (app f vs) m q))) in
        let q = from_group m.rule.left spec.rules 0 (chosen.number, chosen.guards) chosen.among in
        value_by (of_its_group spec (app f vs) m q) chosen.cost
        (subst (λ gs. GivesGuards spec m.entries gs chosen.cost) q.guards chosen.hold)

    pub call_value : ¬ (IsConstructor spec.sig f) → HasValue spec measure (app f vs)
    call_value other =
        let m = admitted.covering f sorted.0 vs sorted.1 other sorted.3 values in
        let rule = m.1.0 in
        let count = length (sorts_of rule.vars) in
        let left = fine.rules m.0 rule m.1.1 in
        let same : instance (first_entries count m.1.2.0) rule.left ≡ instance m.1.2.0 rule.left = same_instance
        rule.left (first_entries count m.1.2.0) m.1.2.0
        (λ n o. entry_is count m.1.2.0 n (occurs_within spec.sig (sorts_of rule.vars) rule.left left.sides.0
        left.sides.1 n o)) in
        value_in_group (record {
          number = m.0;
          rule = rule;
          listed = m.1.1;
          entries = first_entries count m.1.2.0;
          numbered = subst (λ n. Numbered 0 rule.left n)
              (sym (length-map-range_with_len (λ n. instance m.1.2.0 (var n)) 0 count)) left.numbered;
          is = same ∙ m.1.2.1;
        })
