-- The fewest symbols of a value: no value has fewer, and if it is a number within the limit some value has as many.
use Rattle.std.proofs.Common.{◌≡◌, ℕ, zero, suc, ◌+◌, ◌<◌, ◌≤◌, min, List, [], ◌∷◌, ◌++◌, None, ◌⊎◌, inl, inr, refl}
use Rattle.std.proofs.Common.{sym, subst, arith}
use Rattle.std.specs.Prelude.{filter, map, nat_le, slice_get}
use Rattle.std.specs.List.{flat_map, AllByRecursion}
use Rattle.std.proofs.lemmas.List.Elements.{filter-append}
use Rattle.term_core.specs.Tree.{Tree, app, tree_size, sizes, trees_of}
use Rattle.term_core.specs.declared.ids.SortId.{SortId}
use Rattle.spec_core.specs.Sig.{Sig}
use Rattle.spec_core.specs.Order.{product, constructors_of, is_small, values}
use Rattle.refuter.proofs.Numbers.{split_le, le_true, le_false}
use Rattle.term_core.proofs.Members.{In}
use Rattle.refuter.specs.Bounded.{small_terms, small_rows, values_within, rows_within}
use Rattle.refuter.specs.Fewest.{total, lowered, lowered_by, fewest}
use Rattle.refuter.proofs.InLists.{none_is_first, in_flat_map, flat_map_parts, in_map, map_parts, in_filter}
use Rattle.refuter.proofs.InLists.{filter_parts, product_more, in_begun}
use Rattle.refuter.proofs.Members.{all_flat_map, all_map}
use Rattle.term_core.proofs.Items.{all_append}
use Rattle.term_core.proofs.Trees.{size_positive}

pub lowered_to : (n k : ℕ) → k ≤ 255 → lowered n k ≡ min n k
unfolding lowered
lowered_to n k h = rw (le_true k 255 h) refl

pub lowered_not : (n k : ℕ) → 255 < k → lowered n k ≡ n
unfolding lowered
lowered_not n k h = rw (le_false k 255 h) refl

lowered_le : (n k : ℕ) → lowered n k ≤ n
lowered_le n k = elim (split_le k 255) [
  | inl h ↦ omega (arith, lowered_to n k h)
  | inr h ↦ omega (
    arith,
    lowered_not n k h,
  )
]

-- the number is at most 255, or says that there is no value
IsNumber : ℕ → Type 0
IsNumber n = (n ≤ 255) ⊎ (n ≡ 4096)

lowered_number : (n k : ℕ) → IsNumber n → IsNumber (lowered n k)
unfolding IsNumber
lowered_number n k w = elim (split_le k 255) [
  | inl h ↦ inl (omega (arith, lowered_to n k h))
  | inr h ↦ subst (λ m. (m ≤ 255) ⊎ (m ≡ 4096)) (sym (lowered_not n k h)) w
]

module _ (f : SortId → ℕ) where
  by_le : (n : ℕ) (cs : List (ℕ × List SortId)) → lowered_by f n cs ≤ n
  by_le n [] = omega arith
  by_le n (c ∷ cs) = omega (arith, by_le (lowered n (1 + total f c.1)) cs, lowered_le n (1 + total f c.1))

  by_number : (n : ℕ) (cs : List (ℕ × List SortId)) → IsNumber n → IsNumber (lowered_by f n cs)
  by_number n [] h = h
  by_number n (c ∷ cs) h = by_number (lowered n (1 + total f c.1)) cs (lowered_number n (1 + total f c.1) h)

  -- the number stayed, or a constructor gave it
  by_one : (n : ℕ) (cs : List (ℕ × List SortId)) → (n ≤ lowered_by f n cs)
      ⊎ ((c : ℕ × List SortId) × In c cs × (1 + total f c.1 ≤ 255) × (1 + total f c.1 ≤ lowered_by f n cs))
  by_one n [] = inl (omega arith)
  by_one n (c ∷ cs) =
      let k = 1 + total f c.1 in
      elim (by_one (lowered n k) cs) [
        | inr w ↦ inr (w.0, inr w.1, w.2, w.3)
        | inl w ↦ elim (split_le k 255) [
          | inr h ↦ inl (omega (arith, lowered_not n k h))
          | inl h ↦
              let e = lowered_to n k h in
              elim (split_le n k) [
                | inl a ↦ inl (omega arith)
                | inr a ↦ inr (c, inl refl, h, omega arith)
              ]
        ]
      ]

  rows_least : (V : SortId → List Tree) → ((s : SortId) → AllByRecursion (λ t. f s ≤ tree_size t) (V s)) →
      (ss : List SortId) → AllByRecursion (λ r. total f ss ≤ sizes (trees_of r)) (product (map V ss))
  rows_least V h [] = (omega arith, tt)
  rows_least V h (s ∷ ss) =
      all_flat_map (λ t. f s ≤ tree_size t) (λ r. f s + total f ss ≤ sizes (trees_of r))
      (λ t. map (λ r. t ∷ r) (product (map V ss))) (V s) (h s) (λ t a.
      all_map (λ r. total f ss ≤ sizes (trees_of r)) (λ r. f s + total f ss ≤ sizes (trees_of r)) (λ r. t ∷ r)
      (product (map V ss)) (rows_least V h ss) (λ r b. omega arith))

  applied_least : (n g : ℕ) (cs : List (ℕ × List SortId)) (ss : List SortId) (rows : List (List Tree)) →
      AllByRecursion (λ r. total f ss ≤ sizes (trees_of r)) rows →
      AllByRecursion (λ t. lowered_by f (lowered n (1 + total f ss)) cs ≤ tree_size t)
      (filter is_small (map (λ r. app g (trees_of r)) rows))
  applied_least n g cs ss [] a = tt
  applied_least n g cs ss (r ∷ rows) a =
      let m = sizes (trees_of r) in
      let w : total f ss ≤ m = a.0 in
      let P : Tree → Type 0 = λ t. lowered_by f (lowered n (1 + total f ss)) cs ≤ tree_size t in
      let ih = applied_least n g cs ss rows a.1 in
      elim (split_le (1 + m) 255) [
        | inr h ↦ rw (le_false (1 + m) 255 h) ih
        | inl h ↦
            let q = by_le (lowered n (1 + total f ss)) cs in
            let e = lowered_to n (1 + total f ss) (omega arith) in
            let one : lowered_by f (lowered n (1 + total f ss)) cs ≤ 1 + m = omega arith in
            rw (le_true (1 + m) 255 h) (one, ih)
      ]

  all_least : (V : SortId → List Tree) → ((s : SortId) → AllByRecursion (λ t. f s ≤ tree_size t) (V s)) →
      (n : ℕ) (cs : List (ℕ × List SortId)) →
      AllByRecursion (λ t. lowered_by f n cs ≤ tree_size t)
      (filter is_small (flat_map (λ (c : ℕ × List SortId). map (λ ts. app c.0 (trees_of ts)) (product (map V c.1))) cs))
  all_least V h n [] = tt
  all_least V h n (c ∷ cs) =
      let F = λ (k : ℕ × List SortId). map (λ (ts : List Tree). app k.0 (trees_of ts)) (product (map V k.1)) in
      let P : Tree → Type 0 = λ t. lowered_by f (lowered n (1 + total f c.1)) cs ≤ tree_size t in
      let e : filter is_small (F c ++ flat_map F cs) ≡ filter is_small (F c)
      ++ filter is_small (flat_map F cs) = filter-append is_small (F c) (flat_map F cs) in
      subst (λ xs. AllByRecursion P xs) (sym e)
      (all_append P (filter is_small (F c)) (filter is_small (flat_map F cs))
      (applied_least n c.0 cs c.1 (product (map V c.1)) (rows_least V h c.1))
      (all_least V h (lowered n (1 + total f c.1)) cs))

  -- if the sum is below the number that says that there is no value, there is a row of this many symbols
  row_exists : (V : SortId → List Tree) → ((s : SortId) → IsNumber (f s)) →
      ((s : SortId) → f s ≤ 255 → (t : Tree) × In t (V s) × (tree_size t ≤ f s)) → (ss : List SortId) →
      total f ss < 4096 → (r : List Tree) × In r (product (map V ss)) × (sizes (trees_of r) ≤ total f ss)
  unfolding IsNumber
  row_exists V number h [] l = ([], inl refl, omega arith)
  row_exists V number h (s ∷ ss) l =
      let w = row_exists V number h ss (omega arith) in
      let v = h s (elim (number s) [ inl a ↦ a | inr a ↦ absurd (omega arith) ]) in
      (v.0 ∷ w.0, in_begun (λ u. product (map V ss)) (V s) v.0 w.0 v.1 w.1, omega (arith, v.2, w.2))

none_at_most : (bound least : ℕ) (ts : List Tree) → AllByRecursion (λ t. least ≤ tree_size t) ts →
    bound < least → small_terms bound ts ≡ []
none_at_most bound least [] a h = refl
none_at_most bound least (t ∷ ts) a h =
    let w : least ≤ tree_size t = a.0 in
    rw (le_false (tree_size t) bound (omega arith)) (none_at_most bound least ts a.1 h)

module _ (sig : Sig) where
  -- deeper values are more
  deeper : (depth : ℕ) (s : SortId) (t : Tree) → In t (values sig depth s) → In t (values sig (suc depth) s)
  deeper zero s t a = absurd a
  deeper (suc depth) s t a =
      let F = λ (k : ℕ × List SortId). map (λ (ts : List Tree). app k.0 (trees_of ts))
      (product (map (λ u. values sig depth u) k.1)) in
      let G = λ (k : ℕ × List SortId). map (λ (ts : List Tree). app k.0 (trees_of ts))
      (product (map (λ u. values sig (suc depth) u) k.1)) in
      let w = filter_parts is_small (flat_map F (constructors_of sig s)) t a in
      let v = flat_map_parts F (constructors_of sig s) t w.0 in
      let x = map_parts (λ (ts : List Tree). app v.0.0 (trees_of ts))
      (product (map (λ u. values sig depth u) v.0.1)) t v.2 in
      let r = product_more (λ u. values sig depth u) (λ u. values sig (suc depth) u)
      (λ u k b. deeper depth u k b) v.0.1 x.0 x.1 in
      let m : In t (G v.0) = subst (λ k. In k (G v.0)) x.2
      (in_map (λ (ts : List Tree). app v.0.0 (trees_of ts))
      (product (map (λ u. values sig (suc depth) u) v.0.1)) x.0 r) in
      in_filter is_small (flat_map G (constructors_of sig s)) t (in_flat_map G (constructors_of sig s) v.0 t v.1 m) w.1

  fewest_number : (depth : ℕ) (s : SortId) → IsNumber (fewest sig depth s)
  unfolding IsNumber fewest
  fewest_number zero s = inr refl
  fewest_number (suc depth) s = by_number (λ u. fewest sig depth u) (fewest sig depth s) (constructors_of sig s)
      (fewest_number depth s)

  fewest_least : (depth : ℕ) (s : SortId) → AllByRecursion (λ t. fewest sig depth s ≤ tree_size t) (values sig depth s)
  unfolding fewest
  fewest_least zero s = tt
  fewest_least (suc depth) s = all_least (λ u. fewest sig depth u) (λ u. values sig depth u)
      (λ u. fewest_least depth u) (fewest sig depth s) (constructors_of sig s)

  value_exists : (depth : ℕ) (s : SortId) → fewest sig depth s ≤ 255 → (t : Tree) × In t (values sig depth s)
      × (tree_size t ≤ fewest sig depth s)
  unfolding fewest
  value_exists zero s h = absurd (omega arith)
  value_exists (suc depth) s h =
      let f : SortId → ℕ = λ u. fewest sig depth u in
      let V : SortId → List Tree = λ u. values sig depth u in
      let cs = constructors_of sig s in
      elim (by_one f (f s) cs) [
        | inl w ↦
            let v = value_exists depth s (omega arith) in
            (v.0, deeper depth s v.0 v.1, omega (arith, v.2))
        | inr w ↦
            let F = λ (k : ℕ × List SortId). map (λ (ts : List Tree). app k.0 (trees_of ts)) (product (map V k.1)) in
            let r = row_exists f V (λ u. fewest_number depth u) (λ u. value_exists depth u) w.0.1
            (omega (arith, w.2)) in
            let t = app w.0.0 (trees_of r.0) in
            let m : In t (F w.0) = in_map (λ (ts : List Tree). app w.0.0 (trees_of ts)) (product (map V w.0.1))
            r.0 r.1 in (
              t,
              in_filter is_small (flat_map F cs) t (in_flat_map F cs w.0 t w.1 m)
                  (le_true (tree_size t) 255 (omega (arith, r.2, w.2))),
              omega (arith, r.2, w.3),
            )
      ]

  -- no row of values has fewer symbols than the sum says
  pub rows_have : (depth : ℕ) (ss : List SortId) →
      AllByRecursion (λ r. total (λ u. fewest sig depth u) ss ≤ sizes (trees_of r))
      (product (map (λ u. values sig depth u) ss))
  rows_have depth ss = rows_least (λ u. fewest sig depth u) (λ u. values sig depth u) (λ u. fewest_least depth u) ss

  -- if there is room for this many symbols, there is a row
  pub row_fits : (depth : ℕ) (ss : List SortId) (bound : ℕ) → total (λ u. fewest sig depth u) ss ≤ bound →
      bound < 4096 → slice_get (rows_within sig depth ss bound) 0 ≡ None → ⊥
  unfolding rows_within
  row_fits depth ss bound h l e =
      let rows = product (map (λ u. values sig depth u) ss) in
      let w = row_exists (λ u. fewest sig depth u) (λ u. values sig depth u) (λ u. fewest_number depth u)
      (λ u. value_exists depth u) ss (omega arith) in
      none_is_first (small_rows bound rows) w.0 (in_filter (λ ts. nat_le (sizes (trees_of ts)) bound) rows w.0
      w.1 (le_true (sizes (trees_of w.0)) bound (omega (arith, w.2)))) e

  -- no value fits into fewer symbols
  pub none_fits : (depth : ℕ) (s : SortId) (bound : ℕ) → bound < fewest sig depth s →
      values_within sig depth s bound ≡ []
  unfolding values_within
  none_fits depth s bound h = none_at_most bound (fewest sig depth s) (values sig depth s) (fewest_least depth s) h

  -- if there is room for a value, the depth is at least 1, and the room too
  pub some_fits : (depth : ℕ) (s : SortId) (bound : ℕ) → fewest sig depth s ≤ bound → bound < 4096 →
      (1 ≤ depth) × (1 ≤ bound)
  unfolding fewest IsNumber
  some_fits zero s bound h l = absurd (omega arith)
  some_fits (suc depth) s bound h l =
      let small : fewest sig (suc depth) s ≤ 255 = elim (fewest_number (suc depth) s)
      [ inl a ↦ a | inr a ↦ absurd (omega arith) ] in
      let w = value_exists (suc depth) s small in
      (omega arith, let k = size_positive w.0 in omega (arith, w.2))
