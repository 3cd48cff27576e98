-- Instances of sorted terms, by terms of the variables' sorts.
use Rattle.std.proofs.Common.{◌≡◌, ◌≢◌, ◌⊎◌, ℕ, zero, suc, ◌<◌, List, [], ◌∷◌, map, length, Bool, true, false, cond}
use Rattle.std.proofs.Common.{eqb, Some, None, inl, inr, refl, ap, sym, ◌∙◌, subst, arith}
use Rattle.std.specs.Prelude.{slice_get, slice_set, slice_index_or}
use Rattle.std.proofs.lemmas.Bool.Decides.{eqb_tells}
use Rattle.std.proofs.lemmas.Option.{slice_get_within}
use Rattle.std.proofs.lemmas.List.{get_or-set_same, get_or-set_other}
use Rattle.std.proofs.lemmas.List.FromFn.{get_or-map-range_with_len, length-map-range_with_len}
use Rattle.term_core.specs.declared.ids.SortId.{SortId}
use Rattle.term_core.specs.Tree.{Tree, Trees, var, app, none, some, trees_of, instance, instances}
use Rattle.term_core.specs.Variables.{Occurs, OccursAny}
use Rattle.spec_core.specs.declared.records.Equation.{Equation}
use Rattle.spec_core.specs.declared.records.Rule.{Rule}
use Rattle.spec_core.specs.declared.records.SymInfo.{SymInfo}
use Rattle.spec_core.specs.Sig.{Sig, info_of}
use Rattle.spec_core.specs.Sorts.{Sorted, SortedAll}
use Rattle.spec_core.specs.Declarations.{IsDeclared, bool_sort, bool_symbol, declared_by}
use Rattle.spec_core.specs.Gives.{boolean}
use Rattle.spec_core.specs.WellSorted.{IsLeft, RuleIsSorted, sorts_of}
use Rattle.clause_core.specs.Instances.{variables}
use Rattle.descent.proofs.Environments.{equation_under}
use Rattle.descent.proofs.SortedEquations.{Each}

-- an instance of a sorted term by terms of the variables' sorts is sorted
mutual
  pub sorted_open : (sig : Sig) (ctx to : List SortId) (ts : List Tree) →
      ((n : ℕ) (u : SortId) → slice_get ctx n ≡ Some u → Sorted sig to (instance ts (var n)) u) →
      (t : Tree) (s : SortId) → Sorted sig ctx t s → Sorted sig to (instance ts t) s
  sorted_open sig ctx to ts h (var n) s p = h n s p
  sorted_open sig ctx to ts h (app f us) s p = (p.0, p.1, p.2, all_sorted_open sig ctx to ts h us p.0.args p.3)

  all_sorted_open : (sig : Sig) (ctx to : List SortId) (ts : List Tree) →
      ((n : ℕ) (u : SortId) → slice_get ctx n ≡ Some u → Sorted sig to (instance ts (var n)) u) →
      (us : Trees) (ss : List SortId) → SortedAll sig ctx us ss → SortedAll sig to (instances ts us) ss
  all_sorted_open sig ctx to ts h none [] p = tt
  all_sorted_open sig ctx to ts h none (s ∷ ss) p = absurd p
  all_sorted_open sig ctx to ts h (some u us) [] p = absurd p
  all_sorted_open sig ctx to ts h (some u us) (s ∷ ss) p = (
    sorted_open sig ctx to ts h u s p.0,
    all_sorted_open sig ctx to ts h us ss p.1,
  )

-- the list of variables with a term for one of them
pub set_at : (len x : ℕ) (t : Tree) (m : ℕ) → m < len →
    ((m ≡ x) × (instance (slice_set (variables 0 len) x t) (var m) ≡ t))
    ⊎ ((m ≢ x) × (instance (slice_set (variables 0 len) x t) (var m) ≡ var m))
set_at len x t m l = by (eqb_tells m x)
  where
    by : ((eqb m x ≡ true) × (m ≡ x)) ⊎ ((eqb m x ≡ false) × (m ≢ x)) →
        ((m ≡ x) × (instance (slice_set (variables 0 len) x t) (var m) ≡ t))
        ⊎ ((m ≢ x) × (instance (slice_set (variables 0 len) x t) (var m) ≡ var m))
    by (inl (h, e)) = inl (
      e,
      ap (λ k. slice_index_or (slice_set (variables 0 len) x t) k (var m)) e
          ∙ get_or-set_same (variables 0 len) x t (var m)
          (omega (arith, length-map-range_with_len (λ n. var n) 0 len, e, l)),
    )
    by (inr (h, d)) = inr (
      d,
      get_or-set_other (variables 0 len) x m t (var m) d
          ∙ get_or-map-range_with_len (λ n. var n) 0 len m m (var m) l (omega arith),
    )

module _ (sig : Sig) (to : List SortId) where
  mutual
    -- an instance of a sorted term that is sorted gives each variable a term of its sort
    entry_sorted : (ctx : List SortId) (t : Tree) (s : SortId) (xs : List Tree) → Sorted sig ctx t s →
        Sorted sig to (instance xs t) s → (n : ℕ) → Occurs n t → (u : SortId) → slice_get ctx n ≡ Some u →
        Sorted sig to (instance xs (var n)) u
    entry_sorted ctx (var m) s xs p q n o u at =
        let e : n ≡ m = o in
        let a : slice_get ctx m ≡ Some u = rw (← e) at in
        let k : s ≡ u = cc in
        rw (e, ← k) q
    entry_sorted ctx (app f ts) s xs p q n o u at =
        let e : Some p.0 ≡ Some q.0 = sym p.1 ∙ q.1 in
        let k : p.0 ≡ q.0 = cc in
        entries_sorted ctx ts p.0.args xs p.3 (rw k q.3) n o u at

    entries_sorted : (ctx : List SortId) (ts : Trees) (ss : List SortId) (xs : List Tree) →
        SortedAll sig ctx ts ss → SortedAll sig to (instances xs ts) ss → (n : ℕ) → OccursAny n ts →
        (u : SortId) → slice_get ctx n ≡ Some u → Sorted sig to (instance xs (var n)) u
    entries_sorted ctx none ss xs p q n o u at = absurd o
    entries_sorted ctx (some t ts) [] xs p q n o u at = absurd p
    entries_sorted ctx (some t ts) (s ∷ ss) xs p q n (inl o) u at = entry_sorted ctx t s xs p.0 q.0 n o u at
    entries_sorted ctx (some t ts) (s ∷ ss) xs p q n (inr o) u at = entries_sorted ctx ts ss xs p.1 q.1 n o u at

  left_sort : (ctx : List SortId) (t : Tree) (s u : SortId) (xs : List Tree) → IsLeft sig t →
      Sorted sig ctx t s → Sorted sig to (instance xs t) u → s ≡ u
  left_sort ctx (var n) s u xs l p q = absurd l
  left_sort ctx (app f ts) s u xs l p q =
      let e : Some p.0 ≡ Some q.0 = sym p.1 ∙ q.1 in
      let k : p.0 ≡ q.0 = cc in
      sym p.2 ∙ ap (λ (i : SymInfo). i.result) k ∙ q.2

  -- an instance of a part of a rule is sorted if that of the left side is
  pub part_sorted : (rule : Rule) (u : SortId) (xs : List Tree) → RuleIsSorted sig rule →
      Sorted sig to (instance xs rule.left) u → (t : Tree) (s : SortId) → Sorted sig (sorts_of rule.vars) t s →
      Sorted sig to (instance xs t) s
  part_sorted rule u xs fine q t s p =
      let ctx = sorts_of rule.vars in
      let e : fine.sides.0 ≡ u = left_sort ctx rule.left fine.sides.0 u xs fine.left fine.sides.1 q in
      let left : Sorted sig to (instance xs rule.left) fine.sides.0 = subst
      (λ w. Sorted sig to (instance xs rule.left) w) (sym e) q in
      sorted_open sig ctx to xs (λ n w at. entry_sorted ctx rule.left fine.sides.0 xs fine.sides.1 left n
      (fine.bound n (slice_get_within ctx n w at)) w at) t s p

  pub right_sorted : (rule : Rule) (u : SortId) (xs : List Tree) → RuleIsSorted sig rule →
      Sorted sig to (instance xs rule.left) u → Sorted sig to (instance xs rule.right) u
  right_sorted rule u xs fine q =
      let e : fine.sides.0 ≡ u = left_sort (sorts_of rule.vars) rule.left fine.sides.0 u xs fine.left fine.sides.1 q in
      subst (λ w. Sorted sig to (instance xs rule.right) w) e
      (part_sorted rule u xs fine q rule.right fine.sides.0 fine.sides.2)

  -- instances of equations
  pub each_instance : (ctx : List SortId) (ts : List Tree) →
      ((n : ℕ) (u : SortId) → slice_get ctx n ≡ Some u → Sorted sig to (instance ts (var n)) u) →
      (es : List Equation) → Each sig ctx es → Each sig to (map (equation_under ts) es)
  each_instance ctx ts k [] p = tt
  each_instance ctx ts k (e ∷ es) p = (
    (
      p.0.0,
      sorted_open sig ctx to ts k e.left p.0.0 p.0.1,
      sorted_open sig ctx to ts k e.right p.0.0 p.0.2,
    ),
    each_instance ctx ts k es p.1,
  )

  -- terms for the variables of a clause
  pub term_of : (terms : List Tree) (ss : List SortId) → SortedAll sig to (trees_of terms) ss →
      (n : ℕ) (u : SortId) → slice_get ss n ≡ Some u → (d : Tree) → Sorted sig to (slice_index_or terms n d) u
  term_of [] [] p n u at d = absurd (let q : None ≡ Some u = at in cc)
  term_of [] (s ∷ ss) p n u at d = absurd p
  term_of (t ∷ ts) [] p n u at d = absurd p
  term_of (t ∷ ts) (s ∷ ss) p zero u at d = let q : Some s ≡ Some u = at in let k : s ≡ u = cc in
      subst (λ z. Sorted sig to t z) k p.0
  term_of (t ∷ ts) (s ∷ ss) p (suc n) u at d = term_of ts ss p.1 n u at d

  pub boolean_sorted : IsDeclared sig → (b : Bool) → Sorted sig to (boolean b) bool_sort
  boolean_sorted d b = (bool_symbol, declared b, refl, tt)
    where
      of_all : (b : Bool) (sorts : List (List ℕ)) (cs fs : List (List ℕ × SymInfo)) →
          info_of (declared_by sorts cs fs) (cond b 0 1) ≡ Some bool_symbol
      of_all true sorts cs fs = refl
      of_all false sorts cs fs = refl

      declared : (b : Bool) → info_of sig (cond b 0 1) ≡ Some bool_symbol
      declared b = subst (λ (x : Sig). info_of x (cond b 0 1) ≡ Some bool_symbol) (sym d.is)
          (of_all b d.sorts d.constructors d.functions)

index_at : (xs : List Tree) (k : ℕ) (t d : Tree) → slice_get xs k ≡ Some t → slice_index_or xs k d ≡ t
index_at [] k t d e = absurd (let q : None ≡ Some t = e in cc)
index_at (x ∷ xs) zero t d e = let q : Some x ≡ Some t = e in cc
index_at (x ∷ xs) (suc k) t d e = index_at xs k t d e

module _ (sig : Sig) (to : List SortId) where
  all_entries : (ss : List SortId) (zs : List Tree) → length zs ≡ length ss →
      ((n : ℕ) (s : SortId) → slice_get ss n ≡ Some s → (t : Tree) → slice_get zs n ≡ Some t →
      Sorted sig to t s) → SortedAll sig to (trees_of zs) ss
  all_entries [] [] l h = tt
  all_entries [] (z ∷ zs) l h = absurd (omega (arith, l))
  all_entries (s ∷ ss) [] l h = absurd (omega (arith, l))
  all_entries (s ∷ ss) (z ∷ zs) l h = (
    h 0 s refl z refl,
    all_entries ss zs (omega (arith, l)) (λ n u at t g. h (suc n) u at t g),
  )

  -- the terms of an instance of a left side have the sorts of the rule's variables
  pub rule_terms_sorted : (rule : Rule) → RuleIsSorted sig rule → (terms : List Tree) →
      length terms ≡ length (sorts_of rule.vars) → (u : SortId) → Sorted sig to (instance terms rule.left) u →
      SortedAll sig to (trees_of terms) (sorts_of rule.vars)
  rule_terms_sorted rule here terms l u p =
      all_entries (sorts_of rule.vars) terms l
      (λ n s at t g. subst (λ z. Sorted sig to z s) (index_at terms n t (var n) g)
      (part_sorted sig to rule u terms here p (var n) s at))
