-- The small value of a sort, by least sizes.
use Rattle.std.proofs.Common.{◌≡◌, ℕ, ◌+◌, ◌<◌, ◌≤◌, List, [], ◌∷◌, ◌++◌, Some, refl, ap, sym, ◌∙◌, subst, arith, min}
use Rattle.std.proofs.Common.{◌⊎◌, inl, inr}
use Rattle.std.specs.Prelude.{slice_index}
use Rattle.std.specs.List.{AllByRecursion}
use Rattle.std.proofs.lemmas.Bool.{cases_lt}
use Rattle.term_core.specs.Tree.{Tree, Trees, var, app, none, some, tree_size, sizes, trees_of}
use Rattle.term_core.specs.declared.ids.SortId.{SortId}
use Rattle.spec_core.specs.declared.records.SymInfo.{SymInfo}
use Rattle.spec_core.specs.Sig.{Sig, info_of, IsConstructor, IsSort, SortsAreInRange}
use Rattle.spec_core.specs.Sorts.{Sorted, SortedAll, AreBuilt, IsValue}
use Rattle.spec_core.specs.Small.{sort_of_number, HasSmallValue, IsLeast, Makes, IsFirstMaker, IsSmall, AreSmall}
use Rattle.spec_core.specs.Sizes.{sum_of, AreLeast}
use Rattle.spec_core.proofs.LeastSizes.{small_bound, reach_made}

-- one more small value
pub smalls_more : (sig : Sig) (ss : List SortId) (ts : List Tree) (s : SortId) (t : Tree) →
    AreSmall sig ss (trees_of ts) → IsSmall sig s t → AreSmall sig (ss ++ s ∷ []) (trees_of (ts ++ t ∷ []))
smalls_more sig [] [] s t a b = (b, tt)
smalls_more sig [] (u ∷ us) s t a b = absurd a
smalls_more sig (r ∷ rs) [] s t a b = absurd a
smalls_more sig (r ∷ rs) (u ∷ us) s t a b = (a.0, smalls_more sig rs us s t a.1 b)

module _ (sig : Sig) (least : List ℕ) where
  -- an application of the fewest symbols has arguments of the fewest symbols
  pub least_args : AreLeast sig least → (ts : Trees) (ss : List SortId) → AllByRecursion (IsSort sig) ss →
      SortedAll sig [] ts ss → AreBuilt sig ts → sizes ts ≤ 255 → sum_of least ss ≤ sizes ts
  least_args a none [] q p b l = omega arith
  least_args a none (s ∷ ss) q p b l = absurd p
  least_args a (some t ts) [] q p b l = absurd p
  least_args a (some t ts) (s ∷ ss) q p b l =
      let v : IsValue sig (sort_of_number s.0) t = (p.0, b.0) in
      let w : HasSmallValue sig (sort_of_number s.0) = (t, v, omega arith) in
      let m = small_bound sig least a s.0 q.0 w in
      omega (arith, (a.is_least s.0 q.0 m).1 t v, least_args a ts ss q.1 p.1 b.1 (omega arith))

  -- a constructor that makes a value of the fewest symbols is of its sort, and its arguments have the fewest symbols
  pub made_is : AreLeast sig least → SortsAreInRange sig → (c : ℕ) (i : SymInfo) (s : SortId) →
      info_of sig c ≡ Some i → IsSort sig s → slice_index least s.0 ≤ 255 →
      Makes sig c s (slice_index least s.0) → (i.result ≡ s) × (1 + sum_of least i.args ≡ slice_index least s.0)
  made_is a w c i s e l q m =
      let p = m.1.0 in
      let k : Some p.0 ≡ Some i = sym p.1 ∙ e in
      let j : p.0 ≡ i = cc in
      let result : i.result ≡ s = ap (λ (x : SymInfo). x.result) (sym j) ∙ p.2 in
      let args : SortedAll sig [] m.0 i.args = subst (λ (x : SymInfo). SortedAll sig [] m.0 x.args) j p.3 in
      let range = (w c i e).1 in
      let small : sizes m.0 ≤ 255 = omega (arith, m.2) in
      let under = least_args a m.0 i.args range args m.1.1.1 small in
      let fits : 1 + sum_of least i.args ≤ 255 = omega (arith, m.2) in
      let made = reach_made sig least (λ t h b. (a.is_least t h b).0) c i m.1.1.0 e range fits in
      let v : IsValue sig s (app c made.0) = subst (λ u. IsValue sig u (app c made.0)) result made.1 in
      let over = (a.is_least s.0 l q).1 (app c made.0) v in
      (result, omega (arith, m.2, made.2, over, under))

  -- and if none before it makes one, it is the first
  pub first_maker : AreLeast sig least → SortsAreInRange sig → (c : ℕ) (i : SymInfo) (s : SortId) →
      IsConstructor sig c → info_of sig c ≡ Some i → IsSort sig s → slice_index least s.0 ≤ 255 → i.result ≡ s →
      1 + sum_of least i.args ≡ slice_index least s.0 →
      ((d : ℕ) → d < c → Makes sig d s (slice_index least s.0) → ⊥) → IsFirstMaker sig c s
  first_maker a w c i s b e l q result n before =
      let made = reach_made sig least (λ t h b. (a.is_least t h b).0) c i b e (w c i e).1 (omega arith) in
      let m : Makes sig c s (slice_index least s.0) = subst (λ u. Makes sig c u (slice_index least s.0)) result
      (subst (λ k. Makes sig c i.result k) n made) in
      (slice_index least s.0, a.is_least s.0 l q, m, before)

pub same_sort : (a b : SortId) → a.0 ≡ b.0 → a ≡ b
same_sort a b p = λ i. record { 0 = p i }

-- the small value that the code makes
pub small_made : (sig : Sig) (least : List ℕ) → AreLeast sig least → SortsAreInRange sig →
    (c : ℕ) (i : SymInfo) (s : SortId) (xs : List SortId) (n : ℕ) (ts : Trees) (t : Tree) →
    IsConstructor sig c → info_of sig c ≡ Some i → IsSort sig s → slice_index least s.0 ≤ 255 →
    i.result.0 ≡ s.0 → n ≡ min (1 + sum_of least i.args) 256 → n ≡ slice_index least s.0 →
    ((d : ℕ) → d < c → Makes sig d s (slice_index least s.0) → ⊥) → xs ≡ i.args → AreSmall sig xs ts →
    t ≡ app c ts → IsSmall sig s t
small_made sig least a w c i s xs n ts t b e l q r m k before x y z =
    let f = first_maker sig least a w c i s b e l q (same_sort i.result s r) (omega arith) before in
    subst (λ u. IsSmall sig s u) (sym z) (f, (i, e, subst (λ us. AreSmall sig us ts) x y))

-- a constructor that the code passes by makes no value of so few symbols
pub passed : (sig : Sig) (least : List ℕ) → AreLeast sig least → SortsAreInRange sig →
    (c d : ℕ) (i : SymInfo) (s : SortId) → info_of sig c ≡ Some i → IsSort sig s → slice_index least s.0 ≤ 255 →
    d ≡ c → Makes sig d s (slice_index least s.0) →
    (i.result.0 ≡ s.0) × (1 + sum_of least i.args ≡ slice_index least s.0)
passed sig least a w c d i s e l q k m =
    let r = made_is sig least a w c i s e l q (subst (λ f. Makes sig f s (slice_index least s.0)) k m) in
    (ap (λ (u : SortId). u.0) r.0, r.1)

-- some constructor makes it
pub some_maker : (sig : Sig) (least : List ℕ) (s : SortId) (n : ℕ) →
    ((v : Tree) × IsValue sig s v × (tree_size v ≡ slice_index least s.0)) → sig.constructors ≤ n →
    ((d : ℕ) → d < n → Makes sig d s (slice_index least s.0) → ⊥) → ⊥
some_maker sig least s n x l h = by x.0 x.1 x.2
  where
    by : (v : Tree) → IsValue sig s v → tree_size v ≡ slice_index least s.0 → ⊥
    by (var k) p e = p.1
    by (app c ts) p e = h c (omega (arith, p.1.0)) (ts, p, e)

module _ (sig : Sig) where
  -- the sorts of an application's arguments are those that its symbol is declared with
  args_sorted : (c : ℕ) (i : SymInfo) (ts : Trees) (s : SortId) → info_of sig c ≡ Some i →
      Sorted sig [] (app c ts) s → (i.result ≡ s) × SortedAll sig [] ts i.args
  args_sorted c i ts s at p =
      let e : Some p.0 ≡ Some i = sym p.1 ∙ at in
      let j : p.0 ≡ i = cc in
      (ap (λ (x : SymInfo). x.result) (sym j) ∙ p.2, subst (λ (x : SymInfo). SortedAll sig [] ts x.args) j p.3)

  -- the fewest of each are the fewest of all
  fewest : (t : Tree) (ts : Trees) (s : SortId) (ss : List SortId) →
      ((u : Tree) → IsValue sig s u → tree_size t ≤ tree_size u) →
      ((us : Trees) → SortedAll sig [] us ss → AreBuilt sig us → sizes ts ≤ sizes us) → (us : Trees) →
      SortedAll sig [] us (s ∷ ss) → AreBuilt sig us → tree_size t + sizes ts ≤ sizes us
  fewest t ts s ss one more none q b = absurd q
  fewest t ts s ss one more (some u us) q b = omega (arith, one u (q.0, b.0), more us q.1 b.1)

  mutual
    -- the small value is a value of the sort, and none has fewer symbols
    pub small_least : (t : Tree) (s : SortId) → IsSmall sig s t → IsValue sig s t × IsLeast sig s (tree_size t)
    small_least (var n) s p = absurd p
    small_least (app c ts) s p =
        let n = p.0.0 in
        let made = p.0.2 in
        let i = p.1.0 in
        let all = smalls_least ts i.args p.1.2 in
        let sorted = args_sorted c i made.0 s p.1.1 made.1.0 in
        let v : IsValue sig s (app c ts) = ((i, p.1.1, sorted.0, all.0), (made.1.1.0, all.1)) in
        let under : sizes ts ≤ sizes made.0 = all.2 made.0 sorted.1 made.1.1.1 in
        (v, ((app c ts, v, refl), λ u q. omega (arith, p.0.1.1 u q, made.2, under)))

    pub smalls_least : (ts : Trees) (ss : List SortId) → AreSmall sig ss ts → SortedAll sig [] ts ss
        × AreBuilt sig ts × ((us : Trees) → SortedAll sig [] us ss → AreBuilt sig us → sizes ts ≤ sizes us)
    smalls_least none [] p = (tt, tt, λ us q b. omega arith)
    smalls_least none (s ∷ ss) p = absurd p
    smalls_least (some t ts) [] p = absurd p
    smalls_least (some t ts) (s ∷ ss) p =
        let one = small_least t s p.0 in
        let more = smalls_least ts ss p.1 in
        ((one.0.0, more.0), (one.0.1, more.1), fewest t ts s ss one.1.1 more.2)

  -- the sort has one least size and one first maker
  one_least : (s : SortId) (m n : ℕ) → IsLeast sig s m → IsLeast sig s n → m ≡ n
  one_least s m n a b = omega (arith, a.1 b.0.0 b.0.1, b.1 a.0.0 a.0.1, a.0.2, b.0.2)

  one_maker : (c d : ℕ) (s : SortId) → IsFirstMaker sig c s → IsFirstMaker sig d s → c ≡ d
  one_maker c d s p q = by (cases_lt c d) (cases_lt d c)
    where
      same : p.0 ≡ q.0
      same = one_least s p.0 q.0 p.1 q.1

      by : (c < d) ⊎ (d ≤ c) → (d < c) ⊎ (c ≤ d) → c ≡ d
      by (inl h) _ = absurd (q.3 c h (subst (λ n. Makes sig c s n) same p.2))
      by (inr h) (inl k) = absurd (p.3 d k (subst (λ n. Makes sig d s n) (sym same) q.2))
      by (inr h) (inr k) = omega arith

  mutual
    -- a sort has one small value
    pub one_small : (t u : Tree) (s : SortId) → IsSmall sig s t → IsSmall sig s u → t ≡ u
    one_small (var n) u s p q = absurd p
    one_small (app c ts) (var n) s p q = absurd q
    one_small (app c ts) (app d us) s p q =
        let e : c ≡ d = one_maker c d s p.0 q.0 in
        let k : Some p.1.0 ≡ Some q.1.0 = sym p.1.1 ∙ ap (λ f. info_of sig f) e ∙ q.1.1 in
        let i : p.1.0 ≡ q.1.0 = cc in
        let args : ts ≡ us = ones_small ts us p.1.0.args p.1.2
        (subst (λ (x : SymInfo). AreSmall sig x.args us) (sym i) q.1.2) in
        cc

    pub ones_small : (ts us : Trees) (ss : List SortId) → AreSmall sig ss ts → AreSmall sig ss us → ts ≡ us
    ones_small none none [] p q = refl
    ones_small none (some u us) [] p q = absurd q
    ones_small none us (s ∷ ss) p q = absurd p
    ones_small (some t ts) us [] p q = absurd p
    ones_small (some t ts) none (s ∷ ss) p q = absurd q
    ones_small (some t ts) (some u us) (s ∷ ss) p q =
        let one : t ≡ u = one_small t u s p.0 q.0 in
        let more : ts ≡ us = ones_small ts us ss p.1 q.1 in
        cc
