-- What rounds over the constructors end with are least sizes.
use Rattle.std.proofs.Common.{◌≡◌, ℕ, zero, suc, ◌+◌, ◌<◌, ◌≤◌, List, [], ◌∷◌, ◌++◌, Some, ◌⊎◌, inl, inr, refl, ap}
use Rattle.std.proofs.Common.{◌∙◌, arith, length, get_or, take, min}
use Rattle.std.specs.Prelude.{slice_index}
use Rattle.std.specs.List.{AllByRecursion}
use Rattle.std.proofs.lemmas.List.{take_more}
use Rattle.std.proofs.lemmas.Bool.{cases_lt}
use Rattle.term_core.specs.Tree.{Tree, Trees, var, app, none, some, tree_size, sizes}
use Rattle.term_core.specs.declared.ids.SortId.{SortId}
use Rattle.spec_core.specs.declared.records.SymInfo.{SymInfo}
use Rattle.spec_core.specs.Sig.{Sig, info_of, IsConstructor, IsSort}
use Rattle.spec_core.specs.Sorts.{Sorted, SortedAll, IsBuilt, AreBuilt}
use Rattle.spec_core.specs.Small.{sort_of_number, HasSmallValue, Makes}
use Rattle.spec_core.specs.Sizes.{sum_of, IsReached, AreReached, AreSettled, AreLeast}

-- the sum with one more sort
sum_append : (least : List ℕ) (xs : List SortId) (x : SortId) →
    sum_of least (xs ++ x ∷ []) ≡ sum_of least xs + slice_index least x.0
sum_append least [] x = omega arith
sum_append least (y ∷ ys) x = omega (arith, sum_append least ys x)

pub sum_more : (least : List ℕ) (ss : List SortId) (i : ℕ) (d : SortId) → i < length ss →
    sum_of least (take (i + 1) ss) ≡ sum_of least (take i ss) + slice_index least (get_or ss i d).0
sum_more least ss i d h = ap (λ xs. sum_of least xs) (take_more ss i d h) ∙ sum_append least (take i ss) (get_or ss i d)

pub sum_within : (least : List ℕ) (ss : List SortId) (i : ℕ) (d : SortId) → i < length ss →
    slice_index least (get_or ss i d).0 ≤ sum_of least ss
sum_within least [] i d h = absurd (omega arith)
sum_within least (x ∷ xs) zero d h = omega arith
sum_within least (x ∷ xs) (suc i) d h = omega (arith, sum_within least xs i d (omega arith))

module _ (sig : Sig) (least : List ℕ) where
  module _ (settled : AreSettled sig least) where
    mutual
      -- what is settled is no more than the size of any value
      pub below : (t : Tree) (s : SortId) → Sorted sig [] t s → IsBuilt sig t →
          min (slice_index least s.0) 256 ≤ tree_size t
      below (var n) s p b = absurd b
      below (app f ts) s p b =
          let h = settled f b.0 p.0 p.1 in
          let e : slice_index least p.0.result.0 ≡ slice_index least s.0 = ap
          (λ (u : SortId). slice_index least u.0) p.2 in
          let r = belows ts p.0.args p.3 b.1 in
          omega (arith, h, e, r)

      pub belows : (ts : Trees) (ss : List SortId) → SortedAll sig [] ts ss → AreBuilt sig ts →
          min (sum_of least ss) 256 ≤ sizes ts
      belows none [] p b = omega arith
      belows none (s ∷ ss) p b = absurd p
      belows (some t ts) [] p b = absurd p
      belows (some t ts) (s ∷ ss) p b = omega (arith, below t s p.0 b.0, belows ts ss p.1 b.1)

  -- arguments of the sizes that the numbers say
  pub reach_all : ((s : ℕ) → s < length sig.sorts → slice_index least s ≤ 255 → IsReached sig least s) →
      (ss : List SortId) → AllByRecursion (IsSort sig) ss → sum_of least ss ≤ 255 →
      (ts : Trees) × SortedAll sig [] ts ss × AreBuilt sig ts × (sizes ts ≡ sum_of least ss)
  reach_all r [] a l = (none, tt, tt, refl)
  reach_all r (s ∷ ss) a l =
      let x = r s.0 a.0 (omega arith) in
      let y = reach_all r ss a.1 (omega arith) in
      (some x.0 y.0, (x.1.0, y.1), (x.1.1, y.2), omega (arith, x.2, y.3))

  -- an application of the size that the numbers say
  pub reach_made : ((s : ℕ) → s < length sig.sorts → slice_index least s ≤ 255 → IsReached sig least s) →
      (c : ℕ) (i : SymInfo) → IsConstructor sig c → info_of sig c ≡ Some i →
      AllByRecursion (IsSort sig) i.args → 1 + sum_of least i.args ≤ 255 →
      Makes sig c i.result (1 + sum_of least i.args)
  reach_made r c i b e a l =
      let y = reach_all r i.args a (omega arith) in
      (y.0, ((i, e, refl, y.1), (b, y.2)), omega (arith, y.3))

  -- what is reached and settled is least
  pub least_of_settled : AreReached sig least → AreSettled sig least → AreLeast sig least
  least_of_settled r h = record {
    long = r.long;
    bounded = r.bounded;
    is_least = λ s l q. (r.reached s l q, λ v p. omega (arith, below h v (sort_of_number s) p.0 p.1));
    has_none = λ s l q w. omega (arith, below h w.0 (sort_of_number s) w.1.0 w.1.1, w.2);
  }

  -- a number of at most 255 is the size of a small value
  pub has_small : AreLeast sig least → (s : ℕ) → s < length sig.sorts → slice_index least s ≤ 255 →
      HasSmallValue sig (sort_of_number s)
  has_small a s l q =
      let x = (a.is_least s l q).0 in
      (x.0, x.1, omega (arith, x.2))

  -- a sort with a small value has a number of at most 255
  pub small_bound : AreLeast sig least → (s : ℕ) → s < length sig.sorts → HasSmallValue sig (sort_of_number s) →
      slice_index least s ≤ 255
  small_bound a s l w = by (cases_lt 255 (slice_index least s))
    where
      by : (255 < slice_index least s) ⊎ (slice_index least s ≤ 255) → slice_index least s ≤ 255
      by (inr h) = h
      by (inl h) = absurd (a.has_none s l h w)

-- the size of an application, at equal sorts
pub size_of : (least : List ℕ) (xs ss : List SortId) (n : ℕ) → xs ≡ ss → n ≡ min (1 + sum_of least xs) 256 →
    n ≡ min (1 + sum_of least ss) 256
size_of least xs ss n e h = h ∙ ap (λ us. min (1 + sum_of least us) 256) e
