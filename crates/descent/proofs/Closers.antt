-- A node that `trivial`, `match` or `absurd` closes doesn't fail.
use Rattle.std.proofs.Common.{◌≡◌, ℕ, zero, suc, ◌+◌, ◌≤◌, List, [], ◌∷◌, ◌++◌, Some, None, inl, inr, refl, ap, sym}
use Rattle.std.proofs.Common.{◌∙◌, subst, arith}
use Rattle.std.specs.Prelude.{slice_get, slice_index_or}
use Rattle.term_core.specs.declared.ids.SortId.{SortId}
use Rattle.term_core.specs.Tree.{Tree, Trees, var, app, none, some, instance, instances, tree_size, sizes}
use Rattle.spec_core.specs.declared.records.Equation.{Equation}
use Rattle.spec_core.specs.declared.records.Spec.{Spec}
use Rattle.spec_core.specs.Sig.{IsConstructor}
use Rattle.spec_core.specs.Sorts.{Sorted, SortedAll, IsValue}
use Rattle.spec_core.specs.Gives.{Gives, GivesAll, built, called, more_terms}
use Rattle.spec_core.specs.Groups.{GroupsAreWhole}
use Rattle.spec_core.specs.Overlap.{NoOverlap}
use Rattle.spec_core.specs.Truth.{EquationHolds, EquationBroken, AllHold, AllBroken, AreValuesOf}
use Rattle.spec_core.specs.WellSorted.{IsWellSorted}
use Rattle.spec_core.proofs.Determined.{determined, left_symbol}
use Rattle.spec_core.proofs.Instances.{sorted_instance}
use Rattle.clause_core.specs.declared.clauses.Clause.{Clause}
use Rattle.clause_core.specs.Equations.{IsEither}
use Rattle.clause_core.specs.Clauses.{ClauseIsSorted}
use Rattle.clause_core.specs.NumberedEquations.{EquationAt}
use Rattle.clause_core.specs.Clashes.{StandsUnder, StandsUnderAny, Clash}
use Rattle.clause_core.specs.Failing.{ClauseFails}
use Rattle.descent.proofs.SortedEquations.{sorted_at}

-- the equation at a place, of those that hold or are broken, and its number
pub holds_at : (spec : Spec) (xs : List Tree) (own : List Equation) (n : ℕ) (at : EquationAt own n) →
    AllHold spec xs own → EquationHolds spec xs at.equation
holds_at spec xs own n at h = by at.before own at.is h
  where
    by : (before es : List Equation) → es ≡ before ++ (at.equation ∷ at.after) → AllHold spec xs es →
        EquationHolds spec xs at.equation
    by [] es e a = (subst (λ z. AllHold spec xs z) e a).0
    by (d ∷ ds) es e a = by ds (ds ++ (at.equation ∷ at.after)) refl (subst (λ z. AllHold spec xs z) e a).1

pub broken_at : (spec : Spec) (xs : List Tree) (own : List Equation) (n : ℕ) (at : EquationAt own n) →
    AllBroken spec xs own → EquationBroken spec xs at.equation
broken_at spec xs own n at h = by at.before own at.is h
  where
    by : (before es : List Equation) → es ≡ before ++ (at.equation ∷ at.after) → AllBroken spec xs es →
        EquationBroken spec xs at.equation
    by [] es e a = (subst (λ z. AllBroken spec xs z) e a).0
    by (d ∷ ds) es e a = by ds (ds ++ (at.equation ∷ at.after)) refl (subst (λ z. AllBroken spec xs z) e a).1

-- a variable's value is of its sort
pub value_of : (spec : Spec) (ctx : List SortId) (xs : List Tree) → AreValuesOf spec ctx xs →
    (n : ℕ) (s : SortId) → slice_get ctx n ≡ Some s → (d : Tree) → IsValue spec.sig s (slice_index_or xs n d)
value_of spec [] xs v n s at d = absurd (let q : None ≡ Some s = at in cc)
value_of spec (x ∷ ctx) [] v n s at d = absurd v
value_of spec (x ∷ ctx) (y ∷ ys) v zero s at d = let q : Some x ≡ Some s = at in let k : x ≡ s = cc in
    subst (λ w. IsValue spec.sig w y) k v.0
value_of spec (x ∷ ctx) (y ∷ ys) v (suc n) s at d = value_of spec ctx ys v.1 n s at d

module _ (spec : Spec) (fine : IsWellSorted spec) (apart : NoOverlap spec) (whole : GroupsAreWhole spec) where
  -- a sorted term under values has one value
  pub one_under : (ctx : List SortId) (xs : List Tree) → AreValuesOf spec ctx xs → (t : Tree) (s : SortId) →
      Sorted spec.sig ctx t s → {v w : Tree} {n m : ℕ} → Gives spec (instance xs t) v n →
      Gives spec (instance xs t) w m → v ≡ w
  one_under ctx xs values t s p a
      b = (determined spec fine apart whole a s
      (sorted_instance spec.sig ctx t s xs p (λ n u at. (value_of spec ctx xs values n u at (var n)).0)) b).0

  module _ (c : Clause) (sorted : ClauseIsSorted spec.sig c) (xs : List Tree) (fails : ClauseFails spec c xs) where
    pub trivial_closes : (k : ℕ) (at : EquationAt c.conclusions k) → at.equation.left ≡ at.equation.right → ⊥
    trivial_closes k at same =
        let b = broken_at spec xs c.conclusions k at fails.conclusions in
        let s = sorted_at spec.sig c.ctx c.conclusions k at sorted.conclusions in
        b.4 (one_under c.ctx xs fails.values_fit at.equation.left s.0 s.1 b.5
        (subst (λ t. Gives spec (instance xs t) b.1 b.3) (sym same) b.6))

    pub match_closes : (k j : ℕ) (at : EquationAt c.conclusions k) (bt : EquationAt c.premises j) →
        IsEither at.equation bt.equation → ⊥
    match_closes k j at bt same =
        let b = broken_at spec xs c.conclusions k at fails.conclusions in
        let h = holds_at spec xs c.premises j bt fails.premises in
        let s = sorted_at spec.sig c.ctx c.conclusions k at sorted.conclusions in
        b.4 (both same b h s)
      where
        both : IsEither at.equation bt.equation → (b : EquationBroken spec xs at.equation) →
            EquationHolds spec xs bt.equation →
            ((s : SortId) × Sorted spec.sig c.ctx at.equation.left s
            × Sorted spec.sig c.ctx at.equation.right s) → b.0 ≡ b.1
        both (inl e) b h s =
            one_under c.ctx xs fails.values_fit at.equation.left s.0 s.1 b.5
            (subst (λ (x : Equation). Gives spec (instance xs x.left) h.0 h.1) e h.3)
            ∙ sym (one_under c.ctx xs fails.values_fit at.equation.right s.0 s.2 b.6
            (subst (λ (x : Equation). Gives spec (instance xs x.right) h.0 h.2) e h.4))
        both (inr e) b h s =
            one_under c.ctx xs fails.values_fit at.equation.left s.0 s.1 b.5
            (subst (λ (x : Equation). Gives spec (instance xs x.right) h.0 h.2) e h.4)
            ∙ sym (one_under c.ctx xs fails.values_fit at.equation.right s.0 s.2 b.6
            (subst (λ (x : Equation). Gives spec (instance xs x.left) h.0 h.1) e h.3))

  -- the value of a constructor term has the constructor, over values of its arguments
  pub built_value : (f : ℕ) (ts : Trees) (v : Tree) (n : ℕ) → IsConstructor spec.sig f →
      Gives spec (app f ts) v n → (vs : Trees) × (v ≡ app f vs) × ((m : ℕ) × GivesAll spec ts vs m)
  built_value f ts v n c (built {vs = vs} {n = m} d all) = (vs, refl, (m, all))
  built_value f ts v n c (called {vs = vs} number rule values all at bs is gs right cost) = absurd
      (left_symbol spec.sig rule.left values f vs (fine.rules number rule at).left is c)

  module _ (ctx : List SortId) (xs : List Tree) (values : AreValuesOf spec ctx xs) (x : ℕ) (r : SortId)
      (at : slice_get ctx x ≡ Some r) (u : Tree) (k : ℕ) (gives : Gives spec (instance xs (var x)) u k) where
    mutual
      -- what is under constructors has no greater value than the whole
      under_size : (t : Tree) (s : SortId) (v : Tree) (n : ℕ) → Sorted spec.sig ctx t s →
          StandsUnder spec.sig x t → Gives spec (instance xs t) v n → tree_size u ≤ tree_size v
      under_size (var y) s v n p o g =
          let h : Gives spec (instance xs (var x)) v n = subst (λ z. Gives spec (instance xs (var z)) v n) (sym o) g in
          let e : u ≡ v = one_under ctx xs values (var x) r at gives h in
          let l : tree_size u ≡ tree_size v = ap tree_size e in
          omega (arith, l)
      under_size (app f ts) s v n p o g =
          let b = built_value f (instances xs ts) v n o.0 g in
          let l = under_sizes ts p.0.args b.0 b.2.0 p.3 o.1 b.2.1 in
          let e : tree_size v ≡ 1 + sizes b.0 = ap tree_size b.1 in
          omega (arith, l, e)

      under_sizes : (ts : Trees) (ss : List SortId) (vs : Trees) (n : ℕ) → SortedAll spec.sig ctx ts ss →
          StandsUnderAny spec.sig x ts → GivesAll spec (instances xs ts) vs n → tree_size u ≤ sizes vs
      under_sizes none ss vs n p o g = absurd o
      under_sizes (some t ts) [] vs n p o g = absurd p
      under_sizes (some t ts) (s ∷ ss) vs n p (inl o)
          (more_terms {v = w} {vs = ws} {n = m} one more cost) = omega (arith, under_size t s w m p.0 o one)
      under_sizes (some t ts) (s ∷ ss) vs n p (inr o) (more_terms {vs = ws} {k = m} one more cost) = omega
          (arith, under_sizes ts ss ws m p.1 o more)

  -- a variable has no value in which its own is below the root
  no_own_part : (ctx : List SortId) (xs : List Tree) → AreValuesOf spec ctx xs →
      (x : ℕ) (g : ℕ) (us : Trees) (s : SortId) → Sorted spec.sig ctx (var x) s →
      Sorted spec.sig ctx (app g us) s → StandsUnder spec.sig x (app g us) → (v : Tree) (n m : ℕ) →
      Gives spec (instance xs (var x)) v n → Gives spec (instance xs (app g us)) v m → ⊥
  no_own_part ctx xs values x g us s p q o v n m a b =
      let c = built_value g (instances xs us) v m o.0 b in
      let l = under_sizes ctx xs values x s p v n a us q.0.args c.0 c.2.0 q.3 o.1 c.2.1 in
      let e : tree_size v ≡ 1 + sizes c.0 = ap tree_size c.1 in
      omega (arith, l, e)

  -- sides that clash don't give one value
  pub clash_parts : (ctx : List SortId) (xs : List Tree) → AreValuesOf spec ctx xs → (l r : Tree) (s : SortId) →
      Sorted spec.sig ctx l s → Sorted spec.sig ctx r s → Clash spec.sig l r → (v : Tree) (n m : ℕ) →
      Gives spec (instance xs l) v n → Gives spec (instance xs r) v m → ⊥
  clash_parts ctx xs values (var x) (var y) s p q c v n m a b = c
  clash_parts ctx xs values (var x) (app g us) s p q c v n m a b = no_own_part ctx xs values x g us s p q c v n m a b
  clash_parts ctx xs values (app f ts) (var y) s p q c v n m a b = no_own_part ctx xs values y f ts s q p c v m n b a
  clash_parts ctx xs values (app f ts) (app g us) s p q c v n m a b =
      let d = built_value f (instances xs ts) v n c.0 a in
      let e = built_value g (instances xs us) v m c.1 b in
      let q : app f d.0 ≡ app g e.0 = sym d.1 ∙ e.1 in
      c.2 (cc)

  pub absurd_closes : (c : Clause) → ClauseIsSorted spec.sig c → (xs : List Tree) → ClauseFails spec c xs →
      (j : ℕ) (at : EquationAt c.premises j) → Clash spec.sig at.equation.left at.equation.right → ⊥
  absurd_closes c sorted xs fails j at clash =
      let h = holds_at spec xs c.premises j at fails.premises in
      let s = sorted_at spec.sig c.ctx c.premises j at sorted.premises in
      clash_parts c.ctx xs fails.values_fit at.equation.left at.equation.right s.0 s.1 s.2 clash h.0 h.1 h.2 h.3 h.4
