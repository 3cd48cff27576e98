-- The values and rows within a bound, constructor by constructor and place by place.
use Rattle.std.proofs.Common.{◌≡◌, ℕ, suc, ◌+◌, ◌-◌, ◌<◌, ◌≤◌, min, List, [], ◌∷◌, ◌++◌, inl, inr, refl, ap, sym, ◌∙◌}
use Rattle.std.proofs.Common.{arith}
use Rattle.std.specs.Prelude.{filter, map, nat_le}
use Rattle.std.specs.List.{flat_map, AllByRecursion}
use Rattle.std.proofs.lemmas.List.Elements.{filter-append}
use Rattle.term_core.specs.Tree.{Tree, app, tree_size, sizes, trees_of}
use Rattle.term_core.specs.declared.ids.SortId.{SortId}
use Rattle.spec_core.specs.Sig.{Sig}
use Rattle.spec_core.specs.Order.{product, constructors_of, is_small, values}
use Rattle.refuter.proofs.Numbers.{split_le, le_true, le_false}
use Rattle.refuter.specs.Bounded.{small_terms, small_rows, values_within, rows_within}
use Rattle.refuter.specs.Fewest.{fewest, total}
use Rattle.refuter.specs.After.{constructors_after, room_within, applications, made_from, rows_on, room_before}
use Rattle.term_core.proofs.Trees.{size_positive}

le_same : (n m i j : ℕ) → (n ≤ m → i ≤ j) → (i ≤ j → n ≤ m) → nat_le n m ≡ nat_le i j
le_same n m i j f g = elim (split_le n m) [
  | inl a ↦ le_true n m a ∙ sym (le_true i j (f a))
  | inr a ↦ le_false n m a
      ∙ sym (elim (split_le i j) [ inl b ↦ absurd (let w = g b in omega arith) | inr b ↦ le_false i j b ])
]

-- nothing has no symbols
pub none_within_zero : (ts : List Tree) → small_terms 0 ts ≡ []
none_within_zero [] = refl
none_within_zero (t ∷ ts) = rw (le_false (tree_size t) 0 (size_positive t)) (none_within_zero ts)

-- the rows that begin with a term that fits are those whose rest fits into what it leaves free
rows_with : (bound : ℕ) (t : Tree) (rows : List (List Tree)) → tree_size t ≤ bound →
    small_rows bound (map (λ r. t ∷ r) rows) ≡ map (λ r. t ∷ r) (small_rows (bound - tree_size t) rows)
rows_with bound t [] h = refl
rows_with bound t (r ∷ rows) h =
    let e : nat_le (tree_size t + sizes (trees_of r)) bound ≡ nat_le (sizes (trees_of r))
    (bound - tree_size t) = le_same _ _ _ _ (λ a. omega arith) (λ a. omega arith) in
    let ih = rows_with bound t rows h in
    elim (split_le (sizes (trees_of r)) (bound - tree_size t)) [
      | inl a ↦
          let p = le_true _ _ a in
          rw (e, p) (ap (λ xs. (t ∷ r) ∷ xs) ih)
      | inr a ↦
          let p = le_false _ _ a in
          rw (e, p) ih
    ]

-- no row begins with a term that doesn't fit
rows_without : (bound : ℕ) (t : Tree) (rows : List (List Tree)) → bound < tree_size t →
    small_rows bound (map (λ r. t ∷ r) rows) ≡ []
rows_without bound t [] h = refl
rows_without bound t (r ∷ rows) h =
    let p = le_false (tree_size t + sizes (trees_of r)) bound (omega arith) in
    rw p (rows_without bound t rows h)

-- rows of which each has this many symbols are none within less
none_within : (bound least : ℕ) (rows : List (List Tree)) →
    AllByRecursion (λ r. least ≤ sizes (trees_of r)) rows → bound < least → small_rows bound rows ≡ []
none_within bound least [] a h = refl
none_within bound least (r ∷ rows) a h =
    let w : least ≤ sizes (trees_of r) = a.0 in
    let p = le_false (sizes (trees_of r)) bound (omega arith) in
    rw p (none_within bound least rows a.1 h)

-- rows of two or more places: first values that leave no room for the others have no rows
rows_step : (bound least : ℕ) (ts : List Tree) (rows : List (List Tree)) →
    AllByRecursion (λ r. least ≤ sizes (trees_of r)) rows →
    small_rows bound (flat_map (λ t. map (λ r. t ∷ r) rows) ts) ≡ flat_map
    (λ t. map (λ r. t ∷ r) (small_rows (bound - tree_size t) rows)) (small_terms (bound - least) ts)
rows_step bound least [] rows a = refl
rows_step bound least (t ∷ ts) rows a =
    let F : Tree → List (List Tree) = λ u. map (λ r. u ∷ r) rows in
    let G : Tree → List (List Tree) = λ u. map (λ r. u ∷ r) (small_rows (bound - tree_size u) rows) in
    let ih : small_rows bound (flat_map F ts) ≡ flat_map G (small_terms (bound - least) ts) = rows_step bound
    least ts rows a in
    let apart : small_rows bound (F t ++ flat_map F ts) ≡ small_rows bound (F t)
    ++ small_rows bound (flat_map F ts) = filter-append _ (F t) (flat_map F ts) in
    apart ∙ elim (split_le (tree_size t) bound) [
      | inl fits ↦ elim (split_le (tree_size t) (bound - least)) [
        | inl b ↦
            let p = le_true _ _ b in
            rw p (ap (λ x. x ++ small_rows bound (flat_map F ts)) (rows_with bound t rows fits) ∙ ap (λ x. G t ++ x) ih)
        | inr b ↦
            let p = le_false _ _ b in
            let z : small_rows (bound - tree_size t) rows ≡ [] = none_within (bound - tree_size t) least rows a
            (let w = size_positive t in omega arith) in
            rw p (ap (λ x. x ++ small_rows bound (flat_map F ts)) (rows_with bound t rows fits
            ∙ ap (λ x. map (λ r. t ∷ r) x) z) ∙ ih)
      ]
      | inr large ↦
          let p = le_false (tree_size t) (bound - least) (omega arith) in
          rw p (ap (λ x. x ++ small_rows bound (flat_map F ts)) (rows_without bound t rows large) ∙ ih)
    ]

-- the applications that fit are those to rows that fit
applied : (bound f : ℕ) (rows : List (List Tree)) → 1 ≤ bound →
    small_terms bound (filter is_small (map (λ ts. app f (trees_of ts)) rows)) ≡ map (λ ts. app f (trees_of ts))
    (small_rows (min bound 255 - 1) rows)
applied bound f [] h = refl
applied bound f (r ∷ rows) h =
    let n = sizes (trees_of r) in
    let ih = applied bound f rows h in
    elim (split_le (1 + n) 255) [
      | inl a ↦
          let p = le_true (1 + n) 255 a in
          elim (split_le (1 + n) bound) [
            | inl b ↦
                let q = le_true (1 + n) bound b in
                let s = le_true n (min bound 255 - 1) (omega arith) in
                rw (p, q, s) (ap (λ xs. app f (trees_of r) ∷ xs) ih)
            | inr b ↦
                let q = le_false (1 + n) bound b in
                let s = le_false n (min bound 255 - 1) (omega arith) in
                rw (p, q, s) ih
          ]
      | inr a ↦
          let p = le_false (1 + n) 255 a in
          let s = le_false n (min bound 255 - 1) (omega arith) in
          rw (p, s) ih
    ]

module _ (sig : Sig) (depth : ℕ) where
  applied_all : (bound : ℕ) (cs : List (ℕ × List SortId)) → 1 ≤ bound →
      small_terms bound (filter is_small
      (flat_map (λ (c : ℕ × List SortId). map (λ ts. app c.0 (trees_of ts))
      (product (map (λ u. values sig depth u) c.1))) cs)) ≡ flat_map (λ c. applications sig depth bound c) cs
  unfolding applications rows_within room_within
  applied_all bound [] h = refl
  applied_all bound (c ∷ cs) h =
      let F = λ (k : ℕ × List SortId). map (λ (ts : List Tree). app k.0 (trees_of ts))
      (product (map (λ u. values sig depth u) k.1)) in
      let one : filter is_small (F c ++ flat_map F cs) ≡ filter is_small (F c)
      ++ filter is_small (flat_map F cs) = filter-append is_small (F c) (flat_map F cs) in
      let two : small_terms bound (filter is_small (F c) ++ filter is_small (flat_map F cs)) ≡ small_terms bound
      (filter is_small (F c)) ++ small_terms bound (filter is_small (flat_map F cs)) = filter-append
      (λ t. nat_le (tree_size t) bound) (filter is_small (F c)) (filter is_small (flat_map F cs)) in
      ap (λ xs. small_terms bound xs) one ∙ two
      ∙ ap (λ xs. xs ++ small_terms bound (filter is_small (flat_map F cs)))
      (applied bound c.0 (product (map (λ u. values sig depth u) c.1)) h)
      ∙ ap (λ xs. applications sig depth bound c ++ xs) (applied_all bound cs h)

  pub values_step : (s : SortId) (bound : ℕ) → 1 ≤ bound →
      values_within sig (suc depth) s bound ≡ made_from sig depth s bound 0
  unfolding values_within made_from constructors_after
  values_step s bound h =
      let z : sig.constructors - 0 ≡ sig.constructors = omega arith in
      applied_all bound (constructors_of sig s) h ∙ rw z refl

  pub rows_begin : (s : SortId) (ss : List SortId) (bound : ℕ) →
      AllByRecursion (λ r. total (λ u. fewest sig depth u) ss ≤ sizes (trees_of r))
      (product (map (λ u. values sig depth u) ss)) →
      rows_within sig depth (s ∷ ss) bound ≡ rows_on sig depth ss bound
      (values_within sig depth s (room_before sig depth ss bound))
  unfolding values_within rows_within rows_on room_before
  rows_begin s ss bound a = rows_step bound (total (λ u. fewest sig depth u) ss) (values sig depth s)
      (product (map (λ u. values sig depth u) ss)) a

pub values_zero : (sig : Sig) (depth : ℕ) (s : SortId) → values_within sig depth s 0 ≡ []
unfolding values_within
values_zero sig depth s = none_within_zero (values sig depth s)

pub values_none : (sig : Sig) (s : SortId) (bound : ℕ) → values_within sig 0 s bound ≡ []
unfolding values_within
values_none sig s bound = refl

pub rows_end : (sig : Sig) (depth bound : ℕ) → rows_within sig depth [] bound ≡ [] ∷ []
unfolding rows_within
rows_end sig depth bound = rw (le_true 0 bound (omega arith)) refl
