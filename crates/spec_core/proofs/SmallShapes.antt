-- Small values of naturals and of a few sorts.
use Rattle.std.proofs.Common.{◌≡◌, ℕ, zero, suc, ◌+◌, ◌<◌, ◌≤◌, List, [], ◌∷◌, Some, refl, ap, sym, ◌∙◌, subst, arith}
use Rattle.std.proofs.Common.{length}
use Rattle.std.specs.Prelude.{replicate}
use Rattle.term_core.specs.Tree.{Tree, Trees, var, app, none, some, tree_size, sizes}
use Rattle.term_core.specs.declared.ids.SortId.{SortId}
use Rattle.spec_core.specs.declared.records.SymInfo.{SymInfo}
use Rattle.spec_core.specs.Sig.{Sig, info_of, IsConstructor}
use Rattle.spec_core.specs.Sorts.{Sorted, SortedAll, IsBuilt, IsValue}
use Rattle.spec_core.specs.Small.{HasSmallValue, IsFirstWithout, Makes, IsSmall, AreSmall, sort_of_number}
use Rattle.spec_core.specs.Declarations.{bool_sort, bool_symbol}
use Rattle.spec_core.specs.Naturals.{nat, declares, naturals_sig, zero_term}
use Rattle.spec_core.specs.Shapes.{shape, shape_symbol, tree_sig, color_sig, wide_sig}
use Rattle.term_core.proofs.Trees.{size_positive}

module _ (sig : Sig) where
  sizes_long : (ts : Trees) (ss : List SortId) → SortedAll sig [] ts ss → length ss ≤ sizes ts
  sizes_long none [] p = omega arith
  sizes_long none (s ∷ ss) p = absurd p
  sizes_long (some t ts) [] p = absurd p
  sizes_long (some t ts) (s ∷ ss) p = omega (arith, size_positive t, sizes_long ts ss p.1)

  module _ (f : ℕ) (j : SymInfo) (at : info_of sig f ≡ Some j) (ts : Trees) (s : SortId)
      (sorted : Sorted sig [] (app f ts) s) where
    is : j ≡ sorted.0
    is = let e : Some j ≡ Some sorted.0 = sym at ∙ sorted.1 in cc

    -- an application has the sort that its symbol is declared with
    result_is : j.result.0 ≡ s.0
    result_is = ap (λ (i : SymInfo). i.result.0) is ∙ ap (λ (u : SortId). u.0) sorted.2

    -- and more symbols than arguments
    size_above : 1 + length j.args ≤ tree_size (app f ts)
    size_above = omega (arith, ap (λ (i : SymInfo). length i.args) is, sizes_long ts sorted.0.args sorted.3)

  -- the first constant that makes a value of the sort is its small value
  first_constant : (f : ℕ) (j : SymInfo) → IsConstructor sig f → info_of sig f ≡ Some j → j.args ≡ [] →
      ((d : ℕ) → d < f → Makes sig d j.result 1 → ⊥) → IsSmall sig j.result (app f none)
  first_constant f j c at a before =
      let v : IsValue sig j.result
      (app f none) = ((j, at, refl, subst (λ ss. SortedAll sig [] none ss) (sym a) tt), (c, tt)) in (
        (1, ((app f none, v, refl), λ t _. size_positive t), (none, v, refl), before),
        (j, at, subst (λ ss. AreSmall sig ss none) (sym a) tt),
      )

  -- the constructors of Bool make no value of another sort
  no_boolean : info_of sig 0 ≡ Some bool_symbol → info_of sig 1 ≡ Some bool_symbol → (d : ℕ) → d < 2 →
      (ts : Trees) → Sorted sig [] (app d ts) shape → ⊥
  no_boolean a b zero h ts p = let k : ◌≡◌ {A = ℕ} 0 1 = result_is 0 bool_symbol a ts shape p in omega arith
  no_boolean a b (suc zero) h ts p = let k : ◌≡◌ {A = ℕ} 0 1 = result_is 1 bool_symbol b ts shape p in omega arith
  no_boolean a b (suc (suc d)) h ts p = omega arith

pub small_nat : IsSmall naturals_sig nat zero_term
small_nat = first_constant naturals_sig 2 (declares []) (omega arith) refl refl
    (λ d h m. no_boolean naturals_sig refl refl d h m.0 m.1.0)

pub small_color : IsSmall color_sig shape (app 2 none)
small_color = first_constant color_sig 2 (shape_symbol []) (omega arith) refl refl
    (λ d h m. no_boolean color_sig refl refl d h m.0 m.1.0)

before_leaf : (d : ℕ) → d < 3 → Makes tree_sig d shape 1 → ⊥
before_leaf zero h m = no_boolean tree_sig refl refl 0 (omega arith) m.0 m.1.0
before_leaf (suc zero) h m = no_boolean tree_sig refl refl 1 (omega arith) m.0 m.1.0
before_leaf (suc (suc zero)) h m = omega (
  arith,
  m.2,
  size_above tree_sig 2 (shape_symbol (shape ∷ shape ∷ [])) refl m.0 shape m.1.0,
)
before_leaf (suc (suc (suc d))) h m = omega arith

pub small_tree : IsSmall tree_sig shape (app 3 none)
small_tree = first_constant tree_sig 3 (shape_symbol []) (omega arith) refl refl before_leaf

wide_large : (t : Tree) → Sorted (wide_sig 255) [] t shape → IsBuilt (wide_sig 255) t → tree_size t ≤ 255 → ⊥
wide_large (var n) s b l = b
wide_large (app zero ts) s b l = no_boolean (wide_sig 255) refl refl 0 (omega arith) ts s
wide_large (app (suc zero) ts) s b l = no_boolean (wide_sig 255) refl refl 1 (omega arith) ts s
wide_large (app (suc (suc zero)) ts) s b l =
    let e : length (replicate 255 bool_sort) ≡ 255 = refl in
    omega (arith, e, size_above (wide_sig 255) 2 (shape_symbol (replicate 255 bool_sort)) refl ts shape s)
wide_large (app (suc (suc (suc f))) ts) s b l = let k : suc (suc (suc f)) < 3 = b.0 in omega arith

before_wide : (n : ℕ) → n < 1 → HasSmallValue (wide_sig 255) (sort_of_number n)
before_wide zero h = (app 0 none, ((_, refl, refl, tt), (omega arith, tt)), omega arith)
before_wide (suc n) h = absurd (omega arith)

pub no_small_wide_value : IsFirstWithout (wide_sig 255) shape
no_small_wide_value = record {
  in_range = omega arith;
  has_none = λ v. wide_large v.0 v.1.0 v.1.1 v.2;
  before = before_wide;
}
