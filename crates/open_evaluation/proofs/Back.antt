-- The way back: terms of the new specification with a value in the place of each constant.
use Rattle.std.proofs.Common.{◌≡◌, ◌<◌, ◌+◌, ◌-◌, ℕ, zero, suc, List, [], ◌∷◌, Some, None, inl, inr, refl, ap, sym}
use Rattle.std.proofs.Common.{◌∙◌, subst, cond, true, false, ltb, map, length, arith}
use Rattle.std.specs.Prelude.{slice_get, slice_index_or}
use Rattle.std.specs.List.{AllByRecursion}
use Rattle.std.proofs.lemmas.Bool.Decides.{nat_tests}
use Rattle.std.proofs.lemmas.Option.{slice_get_within}
use Rattle.term_core.specs.Tree.{Tree, Trees, var, app, none, some, instance, instances}
use Rattle.term_core.specs.declared.ids.SortId.{SortId}
use Rattle.term_core.proofs.Numbers.{below_or_not}
use Rattle.spec_core.specs.declared.records.SymInfo.{SymInfo}
use Rattle.spec_core.specs.declared.records.Spec.{Spec}
use Rattle.spec_core.specs.Sig.{Sig, info_of, IsConstructor, IsSort}
use Rattle.spec_core.specs.Sorts.{Sorted, SortedAll, IsBuilt, AreBuilt, IsValue}
use Rattle.spec_core.specs.Small.{AllHaveSmallValues}
use Rattle.spec_core.specs.Declarations.{IsDeclared}
use Rattle.open_evaluation.specs.Shifted.{shifted_number, shifted, shifted_all, IsExtended}
use Rattle.open_evaluation.proofs.Numbers.{number_kept, number_moved}
use Rattle.open_evaluation.proofs.Extended.{constant_info, info_shifted, info_constant, new_symbol, shifted_constructor}

module _ (c u : ℕ) (value : ℕ → Tree) where
  -- the symbol's number as it was, or the value of a constant
  pub back_app : ℕ → Trees → Tree
  back_app f ts = cond (ltb f c) (app f ts) (cond (ltb f (c + u)) (value (f - c)) (app (f - u) ts))

  abbrev mutual
    pub back : Tree → Tree
    back (var n) = var n
    back (app f ts) = back_app f (back_all ts)

    pub back_all : Trees → Trees
    back_all none = none
    back_all (some t ts) = some (back t) (back_all ts)

  pub back_shifted : (f : ℕ) (ts : Trees) → back (app (shifted_number c u f) ts) ≡ app f (back_all ts)
  unfolding back_app
  back_shifted f ts =
      elim (below_or_not f c) [
        | inl h ↦
            let e = number_kept c u f h in
            let p : ltb f c ≡ true = grind (arith, nat_tests) in
            rw (e, p) refl
        | inr h ↦
            let e = number_moved c u f h in
            let p : ltb (f + u) c ≡ false = grind (arith, nat_tests) in
            let q : ltb (f + u) (c + u) ≡ false = grind (arith, nat_tests) in
            let k : f + u - u ≡ f = omega arith in
            rw (e, p, q, k) refl
      ]

  pub back_constant : (n : ℕ) (ts : Trees) → n < u → back (app (c + n) ts) ≡ value n
  unfolding back_app
  back_constant n ts h =
      let p : ltb (c + n) c ≡ false = grind (arith, nat_tests) in
      let q : ltb (c + n) (c + u) ≡ true = grind (arith, nat_tests) in
      let k : c + n - c ≡ n = omega arith in
      rw (p, q, k) refl

  back_entry : (xs : List Tree) (n m : ℕ) → back (slice_index_or xs n (var m)) ≡ slice_index_or (map back xs) n (var m)
  back_entry [] n m = refl
  back_entry (x ∷ xs) zero m = refl
  back_entry (x ∷ xs) (suc n) m = back_entry xs n m

  mutual
    pub back_instance : (xs : List Tree) (t : Tree) → back (instance xs (shifted c u t)) ≡ instance (map back xs) t
    back_instance xs (var n) = back_entry xs n n
    back_instance xs (app f ts) = back_shifted f (instances xs (shifted_all c u ts))
        ∙ ap (λ us. app f us) (back_instances xs ts)

    pub back_instances : (xs : List Tree) (ts : Trees) →
        back_all (instances xs (shifted_all c u ts)) ≡ instances (map back xs) ts
    back_instances xs none = refl
    back_instances xs (some t ts) =
        let p = back_instance xs t in
        let q = back_instances xs ts in
        cc

-- a value of each sort of a list, by number
module _ (sig : Sig) (small : AllHaveSmallValues sig) where
  abbrev pub value_at : (ss : List SortId) → AllByRecursion (IsSort sig) ss → ℕ → Tree
  value_at [] a n = var n
  value_at (s ∷ ss) a zero = (small s.0 a.0).0
  value_at (s ∷ ss) a (suc n) = value_at ss a.1 n

  pub is_value_at : (ss : List SortId) (a : AllByRecursion (IsSort sig) ss) (n : ℕ) (s : SortId) →
      slice_get ss n ≡ Some s → IsValue sig s (value_at ss a n)
  is_value_at [] a n s at = absurd (let q : None ≡ Some s = at in cc)
  is_value_at (t ∷ ss) a zero s at =
      let q : Some t ≡ Some s = at in
      let k : t ≡ s = cc in
      subst (λ x. IsValue sig x (small t.0 a.0).0) k (small t.0 a.0).1
  is_value_at (t ∷ ss) a (suc n) s at = is_value_at ss a.1 n s at

module _ (old new : Spec) (sorts : List SortId) (more : IsExtended old new sorts)
    (declared : IsDeclared old.sig) (value : ℕ → Tree) (fits : (n : ℕ) (s : SortId) →
    slice_get sorts n ≡ Some s → IsValue old.sig s (value n)) where
  abbrev c : ℕ
  c = old.sig.constructors

  abbrev u : ℕ
  u = length sorts

  -- the way back keeps sorts
  mutual
    pub back_sorted : (t : Tree) (s : SortId) → Sorted new.sig [] t s → Sorted old.sig [] (back c u value t) s
    back_sorted (var n) s h = absurd (let q : None ≡ Some s = h in cc)
    back_sorted (app f ts) s h =
        elim (new_symbol old new sorts more declared f) [
          | inl g ↦
              let at : info_of old.sig g.0 ≡ Some h.0 = sym (info_shifted old new sorts more declared g.0)
              ∙ ap (λ k. info_of new.sig k) (sym g.1) ∙ h.1 in
              let e : back c u value (app f ts) ≡ app g.0 (back_all c u value ts) = ap
              (λ k. back c u value (app k ts)) g.1 ∙ back_shifted c u value g.0 ts in
              subst (λ t. Sorted old.sig [] t s) (sym e) (h.0, at, h.2, back_all_sorted ts h.0.args h.3)
          | inr n ↦
              let i : Some (constant_info n.1) ≡ Some h.0 = sym
              (info_constant old new sorts more declared n.0 n.1 n.3)
              ∙ ap (λ k. info_of new.sig k) (sym n.2) ∙ h.1 in
              let j : constant_info n.1 ≡ h.0 = cc in
              let k : n.1 ≡ s = ap (λ (x : SymInfo). x.result) j ∙ h.2 in
              let e : back c u value (app f ts) ≡ value n.0 = ap (λ k. back c u value (app k ts)) n.2
              ∙ back_constant c u value n.0 ts (slice_get_within sorts n.0 n.1 n.3) in
              subst (λ t. Sorted old.sig [] t s) (sym e)
              (subst (λ x. Sorted old.sig [] (value n.0) x) k (fits n.0 n.1 n.3).0)
        ]

    pub back_all_sorted : (ts : Trees) (ss : List SortId) → SortedAll new.sig [] ts ss →
        SortedAll old.sig [] (back_all c u value ts) ss
    back_all_sorted none [] h = h
    back_all_sorted none (s ∷ ss) h = h
    back_all_sorted (some t ts) [] h = h
    back_all_sorted (some t ts) (s ∷ ss) h = (back_sorted t s h.0, back_all_sorted ts ss h.1)

  -- and values
  mutual
    pub back_built : (t : Tree) → IsBuilt new.sig t → IsBuilt old.sig (back c u value t)
    back_built (var n) h = h
    back_built (app f ts) h =
        elim (new_symbol old new sorts more declared f) [
          | inl g ↦
              let k : IsConstructor old.sig g.0 = shifted_constructor old new sorts more declared g.0
              (subst (λ k. IsConstructor new.sig k) g.1 h.0) in
              let e : back c u value (app f ts) ≡ app g.0 (back_all c u value ts) = ap
              (λ k. back c u value (app k ts)) g.1 ∙ back_shifted c u value g.0 ts in
              subst (λ t. IsBuilt old.sig t) (sym e) (k, back_all_built ts h.1)
          | inr n ↦
              let e : back c u value (app f ts) ≡ value n.0 = ap (λ k. back c u value (app k ts)) n.2
              ∙ back_constant c u value n.0 ts (slice_get_within sorts n.0 n.1 n.3) in
              subst (λ t. IsBuilt old.sig t) (sym e) (fits n.0 n.1 n.3).1
        ]

    pub back_all_built : (ts : Trees) → AreBuilt new.sig ts → AreBuilt old.sig (back_all c u value ts)
    back_all_built none h = h
    back_all_built (some t ts) h = (back_built t h.0, back_all_built ts h.1)
