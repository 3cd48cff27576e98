-- Instances with small values.
use Rattle.std.proofs.Common.{◌≡◌, ℕ, zero, suc, ◌+◌, ◌<◌, List, [], ◌∷◌, ◌++◌, Option, Some, None, ap, sym, ◌∙◌}
use Rattle.std.proofs.Common.{subst, get_or, length, take, map, append_assoc}
use Rattle.std.specs.Prelude.{slice_get}
use Rattle.std.proofs.lemmas.List.{take_more, map-append}
use Rattle.term_core.specs.Tree.{Tree, Trees, var, app, none, some, instance, instances, trees_of}
use Rattle.term_core.specs.declared.ids.SortId.{SortId}
use Rattle.spec_core.specs.Sig.{Sig}
use Rattle.spec_core.specs.Sorts.{Sorted, SortedAll, IsBuilt, AreBuilt, IsValue}
use Rattle.spec_core.specs.Small.{IsSmall, AreSmall}
use Rattle.spec_core.specs.declared.records.VarInfo.{VarInfo}
use Rattle.spec_core.specs.declared.records.Rule.{Rule}
use Rattle.spec_core.specs.WellSorted.{IsPattern, ArePatterns, sorts_of}
use Rattle.spec_core.proofs.SmallValues.{small_least, smalls_more}
use Rattle.overlap_check.specs.NamedValues.{sorts_of_both}

module _ (sig : Sig) where
  pub small_at : (ctx : List SortId) (xs : List Tree) (n : ℕ) (s : SortId) (d : Tree) →
      AreSmall sig ctx (trees_of xs) → slice_get ctx n ≡ Some s → IsSmall sig s (get_or xs n d)
  small_at [] xs n s d a h = absurd (let q : None ≡ Some s = h in cc)
  small_at (r ∷ ctx) [] n s d a h = absurd a
  small_at (r ∷ ctx) (x ∷ xs) zero s d a h =
      let q : Some r ≡ Some s = h in
      let k : r ≡ s = cc in
      subst (λ u. IsSmall sig u x) k a.0
  small_at (r ∷ ctx) (x ∷ xs) (suc n) s d a h = small_at ctx xs n s d a.1 h

  pub small_lists : (ctx more : List SortId) (xs ys : List Tree) → AreSmall sig ctx (trees_of xs) →
      AreSmall sig more (trees_of ys) → AreSmall sig (ctx ++ more) (trees_of (xs ++ ys))
  small_lists [] more [] ys a b = b
  small_lists [] more (x ∷ xs) ys a b = absurd a
  small_lists (s ∷ ctx) more [] ys a b = absurd a
  small_lists (s ∷ ctx) more (x ∷ xs) ys a b = (a.0, small_lists ctx more xs ys a.1 b)

  module _ (ctx : List SortId) (xs : List Tree) (small : AreSmall sig ctx (trees_of xs)) where
    -- each variable becomes a value of its sort
    pub entry_is_value : (n : ℕ) (s : SortId) → slice_get ctx n ≡ Some s → IsValue sig s (instance xs (var n))
    entry_is_value n s h = (small_least sig (instance xs (var n)) s (small_at ctx xs n s (var n) small h)).0

    mutual
      -- and a pattern a term that is built of constructors
      pattern_is_built : (t : Tree) (s : SortId) → Sorted sig ctx t s → IsPattern sig t → IsBuilt sig (instance xs t)
      pattern_is_built (var n) s h p = (entry_is_value n s h).1
      pattern_is_built (app f ts) s h p = (p.0, patterns_are_built ts h.0.args h.3 p.1)

      pub patterns_are_built : (ts : Trees) (ss : List SortId) → SortedAll sig ctx ts ss → ArePatterns sig ts →
          AreBuilt sig (instances xs ts)
      patterns_are_built none ss h p = tt
      patterns_are_built (some t ts) [] h p = absurd h
      patterns_are_built (some t ts) (s ∷ ss) h p = (pattern_is_built t s h.0 p.0, patterns_are_built ts ss h.1 p.1)

-- one more variable and its small value
pub more_small : (sig : Sig) (vars : List VarInfo) (k : ℕ) (v : VarInfo) (old new before : List (Option Tree))
    (t : Tree) → k < length vars → v ≡ get_or vars k v → IsSmall sig v.sort t → new ≡ old ++ Some t ∷ [] →
    (xs : List Tree) × (old ≡ before ++ map (λ x. Some x) xs)
    × AreSmall sig (sorts_of (take k vars)) (trees_of xs) →
    (xs : List Tree) × (new ≡ before ++ map (λ x. Some x) xs) × AreSmall sig (sorts_of (take (k + 1) vars))
    (trees_of xs)
more_small sig vars k v old new before t h at small is (xs, made, all) =
    let e : take (k + 1) vars ≡ take k vars ++ v ∷ [] = take_more vars k v h
    ∙ ap (λ x. take k vars ++ x ∷ []) (sym at) in
    let sorts : sorts_of (take (k + 1) vars) ≡ sorts_of (take k vars) ++ v.sort ∷ [] = ap (λ vs. sorts_of vs) e
    ∙ map-append (λ (w : VarInfo). w.sort) (take k vars) (v ∷ []) in
    let entries : map (λ (x : Tree). Some x) (xs ++ t ∷ []) ≡ map (λ (x : Tree). Some x) xs
    ++ Some t ∷ [] = map-append (λ (x : Tree). Some x) xs (t ∷ []) in
    let new_is : new ≡ before ++ map (λ (x : Tree). Some x) (xs ++ t ∷ []) = is
    ∙ ap (λ us. us ++ Some t ∷ []) made ∙ append_assoc before (map (λ x. Some x) xs) (Some t ∷ [])
    ∙ ap (λ us. before ++ us) (sym entries) in (
      xs ++ t ∷ [],
      new_is,
      subst (λ ss. AreSmall sig ss (trees_of (xs ++ t ∷ []))) (sym sorts)
          (smalls_more sig (sorts_of (take k vars)) xs v.sort t all small),
    )

-- the entries of the variables of two rules
pub all_small : (sig : Sig) (r q : Rule) (start old new : List (Option Tree)) (vs ws : List VarInfo) →
    start ≡ [] → vs ≡ r.vars → ws ≡ q.vars → (xs : List Tree) × (old ≡ start ++ map (λ x. Some x) xs)
    × AreSmall sig (sorts_of vs) (trees_of xs) → (ys : List Tree) × (new ≡ old ++ map (λ x. Some x) ys)
    × AreSmall sig (sorts_of ws) (trees_of ys) → (zs : List Tree) × (new ≡ map (λ x. Some x) zs)
    × AreSmall sig (sorts_of_both r q) (trees_of zs)
all_small sig r q start old new vs ws empty is other_is (xs, made, all) (ys, more, others) =
    let made_is : old ≡ map (λ (x : Tree). Some x) xs = made ∙ ap (λ us. us ++ map (λ x. Some x) xs) empty in
    let new_is : new ≡ map (λ (x : Tree). Some x) (xs ++ ys) = more
    ∙ ap (λ us. us ++ map (λ x. Some x) ys) made_is ∙ sym (map-append (λ (x : Tree). Some x) xs ys) in
    let first : AreSmall sig (sorts_of r.vars) (trees_of xs) = subst
    (λ us. AreSmall sig (sorts_of us) (trees_of xs)) is all in
    let second : AreSmall sig (sorts_of q.vars) (trees_of ys) = subst
    (λ us. AreSmall sig (sorts_of us) (trees_of ys)) other_is others in
    (xs ++ ys, new_is, small_lists sig (sorts_of r.vars) (sorts_of q.vars) xs ys first second)
