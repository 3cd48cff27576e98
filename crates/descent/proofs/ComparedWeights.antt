-- Comparing clauses tells which weighs less.
use Rattle.std.proofs.Common.{◌≡◌, ℕ, zero, suc, ◌≤◌, ◌<◌, List, [], ◌∷◌, ◌++◌, map, length, slice_index_or, subst}
use Rattle.std.proofs.Common.{sym, refl, arith, inl, inr}
use Rattle.std.specs.Prelude.{IsPermutation, Contains}
use Rattle.std.specs.List.{AllByRecursion}
use Rattle.std.proofs.lemmas.List.Sorted.{IsPermutation-sym, IsPermutation-map, Contains-permutation}
use Rattle.std.proofs.lemmas.List.Elements.{Contains-append_right}
use Rattle.std.proofs.lemmas.List.{length-map, map-append}
use Rattle.term_core.specs.Tree.{Tree, tree_depth, instance}
use Rattle.term_core.specs.Contexts.{hole}
use Rattle.spec_core.specs.declared.records.Spec.{Spec}
use Rattle.term_order.specs.Laws.{HasRanks}
use Rattle.clause_core.specs.declared.clauses.Clause.{Clause}
use Rattle.clause_core.specs.declared.clauses.Relation.{Relation}
use Rattle.clause_core.specs.declared.clauses.Relation.TheVariants.{Less, Same, Neither}
use Rattle.clause_core.specs.Ranks.{HasRank}
use Rattle.clause_core.specs.Clauses.{sides}
use Rattle.clause_core.specs.Comparing.{Compares}
use Rattle.clause_core.specs.Multisets.{Exceeds}
use Rattle.descent.specs.Weights.{AreRanks, IsWeight, IsHeavier, Weighs}
use Rattle.descent.proofs.Multisets.{IsIn, none-in, head-in, tail-in, in-cases, exceeds_cancelled}
use Rattle.descent.proofs.RankOf.{rank_of, rank_of_is}
use Rattle.descent.proofs.SideRanks.{Grounded}

from-map : {X : Type 0} (f : X → ℕ) (xs : List X) (m : ℕ) → IsIn m (map f xs) → (x : X) × Contains xs x × (f x ≡ m)
from-map f [] m i = absurd (none-in m i)
from-map f (x ∷ xs) m i =
    elim (in-cases m (f x) (map f xs) i) [
      | inl e ↦ (x, (0, omega arith, refl), e)
      | inr j ↦ let r = from-map f xs m j in (r.0, (suc r.1.0, omega (arith, r.1.1), r.1.2), r.2)
    ]

to-map : {X : Type 0} (f : X → ℕ) (xs : List X) (x : X) → (k : ℕ) → k < length xs → slice_index_or xs k x ≡ x →
    IsIn (f x) (map f xs)
to-map f [] x k l e = absurd (omega arith)
to-map f (y ∷ ys) x zero l e = subst (λ z. IsIn (f x) (f z ∷ map f ys)) (sym e) (head-in (f x) (map f ys))
to-map f (y ∷ ys) x (suc k) l e = tail-in (f x) (f y) (map f ys) (to-map f ys x k (omega arith) e)

-- The weights fall if the multisets of sides do.
pub exceeds_image : {X : Type 0} (gt : X → X → Type 0) (f : X → ℕ) (xs ys : List X) →
    ((x y : X) → Contains xs x → Contains ys y → gt x y → f y < f x) → Exceeds gt xs ys →
    IsHeavier (map f xs) (map f ys)
exceeds_image gt f xs ys falls d =
    exceeds_cancelled (map f xs) (map f ys) (map f d.rests.common) (map f d.rest) (map f d.other)
    (subst (λ us. IsPermutation (map f xs) us) (map-append f d.rests.common d.rest)
    (IsPermutation-map f xs (d.rests.common ++ d.rest) d.rests.of_first))
    (subst (λ us. IsPermutation (map f ys) us) (map-append f d.rests.common d.other)
    (IsPermutation-map f ys (d.rests.common ++ d.other) d.rests.of_second))
    (omega (arith, length-map d.rest f, d.not_empty))
    (λ m i.
    let y = from-map f d.other m i in
    let g = d.has_greater y.0 y.1 in
    let x_in : Contains xs g.0 = Contains-permutation (d.rests.common ++ d.rest) xs g.0
    (IsPermutation-sym xs (d.rests.common ++ d.rest) d.rests.of_first)
    (Contains-append_right d.rests.common d.rest g.0 g.1) in
    let y_in : Contains ys y.0 = Contains-permutation (d.rests.common ++ d.other) ys y.0
    (IsPermutation-sym ys (d.rests.common ++ d.other) d.rests.of_second)
    (Contains-append_right d.rests.common d.other y.0 y.1) in
    (f g.0, to-map f d.rest g.0 g.1.0 g.1.1 g.1.2, subst (λ n. n < f g.0) y.2 (falls g.0 y.0 x_in y_in g.2)))

module _ (above : Tree → Tree → Type 0) (rank : ℕ → ℕ → Tree → ℕ → Type 0) (laws : HasRanks above rank)
    (spec : Spec) (xs : List Tree) where
  at_least_one : 1 ≤ 100
  at_least_one = omega arith

  -- the rank of an instance, and 0 if it isn't ground
  instance_rank : Tree → ℕ
  instance_rank t = rank_of above rank laws (length spec.sig.table) 100 at_least_one (instance xs t)

  rank_is : (t : Tree) → Grounded spec xs t → HasRank rank spec (instance xs t) (instance_rank t)
  unfolding instance_rank
  rank_is t g = rank_of_is above rank laws (length spec.sig.table) 100 at_least_one (instance xs t) g

  ranks_are : (ts : List Tree) → AllByRecursion (Grounded spec xs) ts → (w : List ℕ) →
      AreRanks rank spec xs ts w → w ≡ map instance_rank ts
  ranks_are [] g [] p = refl
  ranks_are [] g (r ∷ w) p = absurd p
  ranks_are (t ∷ ts) g [] p = absurd p
  ranks_are (t ∷ ts) g (r ∷ w) p =
      let e : r ≡ instance_rank t = laws.one_rank (length spec.sig.table) 100 (instance xs t) r
      (instance_rank t) (omega arith) g.0 p.0 (rank_is t g.0) in
      let f : w ≡ map instance_rank ts = ranks_are ts g.1 w p.1 in
      λ i. e i ∷ f i

  contains_all : (P : Tree → Type 0) (ts : List Tree) → AllByRecursion P ts → (t : Tree) → Contains ts t → P t
  contains_all P [] h t (k, l, e) = absurd (omega (arith, l))
  contains_all P (u ∷ ts) h t (zero, l, e) = subst P e h.0
  contains_all P (u ∷ ts) h t (suc k, l, e) = contains_all P ts h.1 t (k, omega (arith, l), e)

  -- what comparing tells of weights, if all sides are ground under the values and the second ones aren't too deep
  pub compared_weighs : (c d : Clause) (r : Relation) → Compares above c d r →
      AllByRecursion (Grounded spec xs) (sides c) → AllByRecursion (Grounded spec xs) (sides d) →
      AllByRecursion (λ t. tree_depth t ≤ 100) (sides d) → (w v : List ℕ) → IsWeight rank spec xs c w →
      IsWeight rank spec xs d v → Weighs r w v
  compared_weighs c d Neither m gc gd deep w v p q = tt
  compared_weighs c d Same m gc gd deep w v p q = inl
      (subst (λ z. IsPermutation z v) (sym (ranks_are (sides c) gc w p))
      (subst (λ z. IsPermutation (map instance_rank (sides c)) z) (sym (ranks_are (sides d) gd v q))
      (IsPermutation-map instance_rank (sides c) (sides d) m)))
  compared_weighs c d Less m gc gd deep w v p q =
      subst (λ z. IsHeavier z v) (sym (ranks_are (sides c) gc w p))
      (subst (λ z. IsHeavier (map instance_rank (sides c)) z) (sym (ranks_are (sides d) gd v q))
      (exceeds_image above instance_rank (sides c) (sides d) falls m))
    where
      falls : (t s : Tree) → Contains (sides c) t → Contains (sides d) s → above t s → instance_rank s < instance_rank t
      falls t s it is a =
          let gt = contains_all (Grounded spec xs) (sides c) gc t it in
          let gs = contains_all (Grounded spec xs) (sides d) gd s is in
          laws.in_contexts (length spec.sig.table) 100 t s xs hole (instance_rank t) (instance_rank s)
          (omega arith) a (contains_all (λ u. tree_depth u ≤ 100) (sides d) deep s is) gt gs (rank_is t gt)
          (rank_is s gs)
