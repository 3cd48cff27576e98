-- How many items of a list have a size, and so the values of a sort and the rows of values.
use Rattle.std.proofs.Common.{◌≡◌, ℕ, ◌+◌, ◌-◌, ◌*◌, ◌<◌, ◌≤◌, List, [], ◌∷◌, ◌++◌, Bool, true, false, cond, inl, inr}
use Rattle.std.proofs.Common.{refl, ap, sym, ◌∙◌, length, arith}
use Rattle.std.specs.Prelude.{map, filter, ◌==◌}
use Rattle.std.specs.List.{flat_map, AllByRecursion}
use Rattle.std.proofs.lemmas.List.Elements.{filter-append}
use Rattle.std.proofs.lemmas.List.{length-append}
use Rattle.std.proofs.Math.Nat.{zero-mul}
use Rattle.term_core.specs.Tree.{Tree, tree_size, sizes, trees_of}
use Rattle.term_core.proofs.Numbers.{same_or_not}
use Rattle.refuter.proofs.Numbers.{split_le, le_true, le_false}
use Rattle.refuter.proofs.Sums.{one_at, at_place, at_other, sums_same, sum_zero, sum_one, sum_without, sums_more}
use Rattle.refuter.specs.Counts.{number_of_size, rows_of_size, terms_of_size}
use Rattle.refuter.specs.Sequences.{sum_below, convolution, shifted}

pub shifted_from : (f : ℕ → ℕ) (k n : ℕ) → k ≤ n → shifted k f n ≡ f (n - k)
unfolding shifted
shifted_from f k n h = rw (le_true k n h) refl

pub shifted_before : (f : ℕ → ℕ) (k n : ℕ) → n < k → shifted k f n ≡ 0
unfolding shifted
shifted_before f k n h = rw (le_false k n h) refl

length_cond : {X : Type 0} (b : Bool) (x : X) (xs : List X) → length (cond b (x ∷ xs) xs) ≡ cond b 1 0 + length xs
length_cond true x xs = omega arith
length_cond false x xs = omega arith

module _ {X : Type 0} (size : X → ℕ) where
  pub none_of_size : (n : ℕ) → number_of_size size [] n ≡ 0
  unfolding number_of_size
  none_of_size n = refl

  pub more_of_size : (x : X) (xs : List X) (n : ℕ) →
      number_of_size size (x ∷ xs) n ≡ one_at (size x) n + number_of_size size xs n
  unfolding number_of_size one_at
  more_of_size x xs n = length_cond (size x == n) x (filter (λ y. size y == n) xs)

  pub both_of_size : (xs ys : List X) (n : ℕ) →
      number_of_size size (xs ++ ys) n ≡ number_of_size size xs n + number_of_size size ys n
  unfolding number_of_size
  both_of_size xs ys n = ap (λ zs. length zs) (filter-append (λ y. size y == n) xs ys)
      ∙ length-append (filter (λ y. size y == n) xs) (filter (λ y. size y == n) ys)

  -- all items, if no size is above a bound
  pub all_of_size : (m : ℕ) (xs : List X) → AllByRecursion (λ x. size x ≤ m) xs →
      length xs ≡ sum_below (m + 1) (λ n. number_of_size size xs n * 1)
  all_of_size m [] a = sym
      (sum_zero (λ n. number_of_size size [] n * 1) (m + 1) (λ i l. ap (λ k. k * 1) (none_of_size i) ∙ zero-mul 1))
  all_of_size m (x ∷ xs) a =
      let more : sum_below (m + 1) (λ n. number_of_size size (x ∷ xs) n * 1) ≡ sum_below (m + 1)
      (λ n. (one_at (size x) n + number_of_size size xs n) * 1) = sums_same _ _ (m + 1)
      (λ i l. ap (λ k. k * 1) (more_of_size x xs i)) in
      let apart = sums_more (one_at (size x)) (number_of_size size xs) (λ n. 1) (m + 1) in
      let here : size x ≤ m = a.0 in
      let one = sum_one (λ n. 1) (size x) (m + 1) (omega arith) in
      let l : length (x ∷ xs) ≡ 1 + length xs = omega arith in
      omega (arith, more, apart, one, l, all_of_size m xs a.1)

  -- items that are kept if they have this size
  pub kept_of_size : (p : X → Bool) (n : ℕ) → ((x : X) → size x ≡ n → p x ≡ true) → (xs : List X) →
      number_of_size size (filter p xs) n ≡ number_of_size size xs n
  kept_of_size p n h [] = refl
  kept_of_size p n h (x ∷ xs) =
      let ih = kept_of_size p n h xs in
      let more = more_of_size x xs n in
      let keeps : (b : Bool) → (size x ≡ n → b ≡ true) →
      number_of_size size (cond b (x ∷ filter p xs) (filter p xs)) n ≡ number_of_size size (x ∷ xs) n = λ b.
      elim b as (λ v. (size x ≡ n → v ≡ true) →
      number_of_size size (cond v (x ∷ filter p xs) (filter p xs)) n ≡ number_of_size size (x ∷ xs) n) [
        | true ↦ λ w. omega (arith, more_of_size x (filter p xs) n, more, ih)
        | false ↦ λ w. omega (arith, more, ih, at_other (size x) n (λ q. let e : false ≡ true = w q in cc))
      ] in
      keeps (p x) (h x)

-- items that grow by as much are of a size if they were as much smaller
pub grown_of_size : {X Y : Type 0} (small : X → ℕ) (large : Y → ℕ) (grow : X → Y) (k : ℕ) →
    ((x : X) → large (grow x) ≡ k + small x) → (xs : List X) (n : ℕ) →
    number_of_size large (map grow xs) n ≡ shifted k (number_of_size small xs) n
grown_of_size small large grow k h [] n =
    elim (split_le k n) [
      | inl l ↦ none_of_size large n ∙ sym (none_of_size small (n - k))
          ∙ sym (shifted_from (number_of_size small []) k n l)
      | inr l ↦ none_of_size large n ∙ sym (shifted_before (number_of_size small []) k n l)
    ]
grown_of_size small large grow k h (x ∷ xs) n =
    let ih = grown_of_size small large grow k h xs n in
    let more = more_of_size large (grow x) (map grow xs) n in
    let grows = h x in
    elim (split_le k n) [
      | inl l ↦
          let less = more_of_size small x xs (n - k) in
          let a = shifted_from (number_of_size small (x ∷ xs)) k n l in
          let b = shifted_from (number_of_size small xs) k n l in
          elim (same_or_not (large (grow x)) n) [
            | inl q ↦ omega (
              arith,
              ih,
              more,
              less,
              a,
              b,
              at_place (large (grow x)) n q,
              at_place (small x) (n - k) (omega arith),
            )
            | inr q ↦ omega (
              arith,
              ih,
              more,
              less,
              a,
              b,
              at_other (large (grow x)) n q,
              at_other (small x) (n - k) (λ e. q (omega arith)),
            )
          ]
      | inr l ↦ omega (
        arith,
        ih,
        more,
        shifted_before (number_of_size small (x ∷ xs)) k n l,
        shifted_before (number_of_size small xs) k n l,
        at_other (large (grow x)) n (λ e. omega arith),
      )
    ]

-- rows that begin with one of some terms: the numbers of symbols are those of the term and of the rest, whose sum is as wanted
pub rows_by_first : (ts : List Tree) (rows : List (List Tree)) (n : ℕ) →
    rows_of_size (flat_map (λ t. map (λ r. t ∷ r) rows) ts) n ≡ convolution (terms_of_size ts) (rows_of_size rows) n
unfolding convolution
rows_by_first [] rows n = none_of_size (λ r. sizes (trees_of r)) n
    ∙ sym (sum_zero (λ i. terms_of_size [] i * rows_of_size rows (n - i)) (n + 1)
    (λ i l. ap (λ k. k * rows_of_size rows (n - i)) (none_of_size tree_size i) ∙ zero-mul (rows_of_size rows (n - i))))
rows_by_first (t ∷ ts) rows n =
    let h : ℕ → ℕ = λ i. rows_of_size rows (n - i) in
    let F : Tree → List (List Tree) = λ u. map (λ r. u ∷ r) rows in
    let both = both_of_size (λ r. sizes (trees_of r)) (F t) (flat_map F ts) n in
    let here : rows_of_size (F t) n ≡ shifted (tree_size t) (rows_of_size rows) n = grown_of_size
    (λ r. sizes (trees_of r)) (λ r. sizes (trees_of r)) (λ r. t ∷ r) (tree_size t) (λ r. refl) rows n in
    let ih = rows_by_first ts rows n in
    let more : sum_below (n + 1) (λ i. terms_of_size (t ∷ ts) i * h i) ≡ sum_below (n + 1)
    (λ i. (one_at (tree_size t) i + terms_of_size ts i) * h i) = sums_same _ _ (n + 1)
    (λ i l. ap (λ k. k * h i) (more_of_size tree_size t ts i)) in
    let apart = sums_more (one_at (tree_size t)) (terms_of_size ts) h (n + 1) in
    let one : sum_below (n + 1) (λ i. one_at (tree_size t) i * h i) ≡ shifted (tree_size t) (rows_of_size rows)
    n = elim (split_le (tree_size t) n) [
      | inl l ↦ sum_one h (tree_size t) (n + 1) (omega arith) ∙ sym (shifted_from (rows_of_size rows) (tree_size t) n l)
      | inr l ↦ sum_without h (tree_size t) (n + 1) (omega arith)
          ∙ sym (shifted_before (rows_of_size rows) (tree_size t) n l)
    ] in
    omega (arith, both, here, ih, more, apart, one)
