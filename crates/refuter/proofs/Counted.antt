-- Numbers up to a cap: of the values of a sort, and of rows of values.
use Rattle.std.proofs.Common.{◌≡◌, ◌≢◌, ℕ, suc, ◌+◌, ◌-◌, ◌*◌, ◌<◌, ◌≤◌, min, List, [], ◌∷◌, ◌++◌, Some, inl, inr}
use Rattle.std.proofs.Common.{refl, ap, sym, subst, ◌∙◌, length, set, replicate, get_or, get_or-set_same}
use Rattle.std.proofs.Common.{get_or-set_other, arith}
use Rattle.std.specs.Prelude.{map, slice_get, slice_index}
use Rattle.std.specs.List.{flat_map}
use Rattle.std.proofs.lemmas.List.{get_or-replicate, length-replicate, length-set}
use Rattle.std.proofs.Math.Nat.{mul-one, one-mul}
use Rattle.term_core.specs.Tree.{Tree, app, tree_size, sizes, trees_of}
use Rattle.term_core.specs.declared.ids.SortId.{SortId}
use Rattle.term_core.proofs.Numbers.{same_or_not}
use Rattle.spec_core.specs.declared.records.SymInfo.{SymInfo}
use Rattle.spec_core.specs.Sig.{Sig, info_of}
use Rattle.spec_core.specs.Order.{product, constructors_of, is_small, values}
use Rattle.spec_core.proofs.Constructors.{constructor_here, constructor_other}
use Rattle.refuter.proofs.Numbers.{split_le, le_true}
use Rattle.refuter.proofs.Sums.{one_at, at_place, at_other, sums_capped}
use Rattle.refuter.proofs.BySize.{none_of_size, more_of_size, both_of_size, kept_of_size, grown_of_size, rows_by_first}
use Rattle.refuter.proofs.BySize.{all_of_size, shifted_from, shifted_before}
use Rattle.refuter.proofs.Convolved.{convolution_capped}
use Rattle.refuter.proofs.Lowering.{one_past}
use Rattle.refuter.proofs.Progress.{values_small}
use Rattle.refuter.specs.After.{constructors_after}
use Rattle.refuter.specs.Counts.{number_of_size, rows_of_size, terms_of_size, values_of_size, value_rows_of_size}
use Rattle.refuter.specs.Counts.{IsCapped}
use Rattle.refuter.specs.Sequences.{sum_below, convolution, shifted}

-- the numbers of the one empty row
pub empty_row : (cap one m : ℕ) (zeros row : List ℕ) → m ≡ 256 → zeros ≡ replicate m 0 → row ≡ set zeros 0 one →
    one ≡ min cap 1 → IsCapped cap (rows_of_size ([] ∷ [])) row
empty_row cap one m zeros row e z r o =
    let long : length zeros ≡ m = ap (λ xs. length xs) z ∙ length-replicate m 0 in
    let size : List Tree → ℕ = λ ts. sizes (trees_of ts) in
    let number : (n : ℕ) → number_of_size size ([] ∷ []) n ≡ one_at 0 n = λ n. omega (
      arith,
      more_of_size size [] [] n,
      none_of_size size n,
    ) in
    record {
      long = ap (λ xs. length xs) r ∙ length-set zeros 0 one ∙ long ∙ e;
      each = λ n l. elim (same_or_not 0 n) [
        | inl q ↦
            let a : get_or (set zeros 0 one) 0 0 ≡ one = get_or-set_same zeros 0 one 0 (omega arith) in
            let b : slice_index row n ≡ one = ap (λ xs. slice_index xs n) r
            ∙ ap (λ k. get_or (set zeros 0 one) k 0) (sym q) ∙ a in
            omega (arith, b, number n, at_place 0 n q)
        | inr q ↦
            let a : get_or (set zeros 0 one) n 0 ≡ get_or zeros n 0 = get_or-set_other zeros 0 n one 0
            (λ k. q (sym k)) in
            let b : get_or zeros n 0 ≡ 0 = ap (λ xs. get_or xs n 0) z ∙ get_or-replicate m n 0 0 (omega arith) in
            let d : slice_index row n ≡ 0 = ap (λ xs. slice_index xs n) r ∙ a ∙ b in
            omega (arith, d, number n, at_other 0 n q)
      ];
    }

-- no value has depth 0
pub zero_row : (sig : Sig) (cap m : ℕ) (s : SortId) (row : List ℕ) → m ≡ 256 → row ≡ replicate m 0 →
    IsCapped cap (values_of_size sig 0 s) row
unfolding values_of_size
zero_row sig cap m s row e r = record {
  long = ap (λ xs. length xs) r ∙ length-replicate m 0 ∙ e;
  each = λ n l.
      let a : slice_index row n ≡ 0 = ap (λ xs. slice_index xs n) r ∙ get_or-replicate m n 0 0 (omega arith) in
      omega (arith, a, none_of_size tree_size n);
}

module _ (sig : Sig) (depth : ℕ) where
  -- the applications of a constructor to values of at most this depth
  abbrev pub applied : ℕ × List SortId → List Tree
  applied c = map (λ ts. app c.0 (trees_of ts)) (product (map (λ u. values sig depth u) c.1))

  -- how many applications of the sort's constructors from this number on have this many symbols
  unfoldable pub applied_from : ℕ → SortId → ℕ → ℕ
  applied_from f s n = terms_of_size (flat_map applied (constructors_after sig f s)) n

  pub applied_other : (f : ℕ) (s : SortId) (i : SymInfo) → info_of sig f ≡ Some i → f < sig.constructors →
      i.result.0 ≢ s.0 → (n : ℕ) → applied_from f s n ≡ applied_from (f + 1) s n
  unfolding applied_from constructors_after
  applied_other f s i at h q n = ap (λ cs. terms_of_size (flat_map applied cs) n)
      (constructor_other sig f sig.constructors s i at h q)

  pub applied_here : (f : ℕ) (s : SortId) (i : SymInfo) → info_of sig f ≡ Some i → f < sig.constructors →
      i.result.0 ≡ s.0 → (n : ℕ) → applied_from f s n ≡ shifted 1 (value_rows_of_size sig depth i.args) n +
      applied_from (f + 1) s n
  unfolding applied_from constructors_after value_rows_of_size
  applied_here f s i at h q n =
      let rest = constructors_after sig (f + 1) s in
      ap (λ cs. terms_of_size (flat_map applied cs) n) (constructor_here sig f sig.constructors s i at h q)
      ∙ both_of_size tree_size (applied (f, i.args)) (flat_map applied rest) n
      ∙ ap (λ k. k + terms_of_size (flat_map applied rest) n)
      (grown_of_size (λ ts. sizes (trees_of ts)) tree_size (λ ts. app f (trees_of ts)) 1 (λ ts. refl)
      (product (map (λ u. values sig depth u) i.args)) n)

  pub applied_end : (f : ℕ) (s : SortId) (n : ℕ) → sig.constructors ≤ f → applied_from f s n ≡ 0
  unfolding applied_from constructors_after
  applied_end f s n h = let z : sig.constructors - f ≡ 0 = omega arith in rw z (none_of_size tree_size n)

  pub applied_all : (s : SortId) (n : ℕ) → n < 256 → values_of_size sig (depth + 1) s n ≡ applied_from 0 s n
  unfolding values_of_size applied_from constructors_after
  applied_all s n h =
      let e : depth + 1 ≡ suc depth = omega arith in
      let z : sig.constructors - 0 ≡ sig.constructors = omega arith in
      rw (e, z) (kept_of_size tree_size is_small n (λ t q. le_true (tree_size t) 255 (omega arith))
      (flat_map applied (constructors_of sig s)))

  pub value_rows_first : (s : SortId) (ss : List SortId) (n : ℕ) →
      value_rows_of_size sig depth (s ∷ ss) n ≡ convolution (values_of_size sig depth s)
      (value_rows_of_size sig depth ss) n
  unfolding value_rows_of_size values_of_size
  value_rows_first s ss n = rows_by_first (values sig depth s) (product (map (λ u. values sig depth u) ss)) n

-- all numbers of a sort's values give the number of its values
pub values_counted : (sig : Sig) (depth cap : ℕ) (s : SortId) (row : List ℕ) →
    IsCapped cap (values_of_size sig depth s) row →
    min (sum_below 256 (slice_index row)) cap ≡ min (length (values sig depth s)) cap
unfolding values_of_size
values_counted sig depth cap s row r =
    let vs = values sig depth s in
    let all : length vs ≡ sum_below 256 (λ n. terms_of_size vs n * 1) = all_of_size tree_size 255 vs
    (values_small sig depth s) in
    sums_capped (slice_index row) (λ n. terms_of_size vs n * 1) cap 256
    (λ i l. omega (arith, r.each i l, mul-one (terms_of_size vs i)))
    ∙ ap (λ n. min n cap) (sym all)

-- what is counted of a sort's applications, if those of the constructors from this number on are left
pub record IsCountedTo (sig : Sig) (depth cap f : ℕ) (s : SortId) (row : List ℕ) : Type 0 where
  pub long : length row ≡ 256
  pub low : (n : ℕ) → n < 256 → slice_index row n ≤ cap
  pub each : (n : ℕ) → n < 256 →
      min (slice_index row n + applied_from sig depth f s n) cap ≡ min (values_of_size sig (depth + 1) s n) cap

module _ (sig : Sig) (depth cap : ℕ) (s : SortId) where
  pub counted_start : (m : ℕ) (row : List ℕ) → m ≡ 256 → row ≡ replicate m 0 → IsCountedTo sig depth cap 0 s row
  counted_start m row e r =
      let zero_at : (n : ℕ) → n < 256 → slice_index row n ≡ 0 = λ n l. ap (λ xs. slice_index xs n) r
      ∙ get_or-replicate m n 0 0 (omega arith) in
      record {
        long = ap (λ xs. length xs) r ∙ length-replicate m 0 ∙ e;
        low = λ n l. omega (arith, zero_at n l);
        each = λ n l. omega (arith, zero_at n l, applied_all sig depth s n l);
      }

  pub counted_other : (f : ℕ) (i : SymInfo) (row : List ℕ) → IsCountedTo sig depth cap f s row →
      info_of sig f ≡ Some i → f < sig.constructors → i.result.0 ≢ s.0 → IsCountedTo sig depth cap (f + 1) s row
  counted_other f i row r at h q = record {
    long = r.long;
    low = r.low;
    each = λ n l. omega (arith, r.each n l, applied_other sig depth f s i at h q n);
  }

  pub counted_here : (f : ℕ) (i : SymInfo) (old new args : List ℕ) → IsCountedTo sig depth cap f s old →
      info_of sig f ≡ Some i → f < sig.constructors → i.result.0 ≡ s.0 →
      IsCapped cap (value_rows_of_size sig depth i.args) args → length new ≡ length old →
      ((n : ℕ) → n < 1 → slice_index new n ≡ slice_index old n) →
      ((n : ℕ) → 1 ≤ n → n < 256 → slice_index new n ≡ min (slice_index old n + 1 * slice_index args (n - 1))
      cap) → IsCountedTo sig depth cap (f + 1) s new
  counted_here f i old new args r at h q c same before from =
      let g = value_rows_of_size sig depth i.args in
      record {
        long = same ∙ r.long;
        low = λ n l. elim (split_le 1 n) [
          | inl b ↦ omega (arith, from n b l)
          | inr b ↦ omega (arith, before n b, r.low n l)
        ];
        each = λ n l.
            let here = applied_here sig depth f s i at h q n in
            elim (split_le 1 n) [
              | inl b ↦ omega (
                arith,
                from n b l,
                one-mul (slice_index args (n - 1)),
                c.each (n - 1) (omega arith),
                r.each n l,
                here,
                shifted_from g 1 n b,
              )
              | inr b ↦ omega (arith, before n b, r.each n l, here, shifted_before g 1 n b)
            ];
      }

  pub counted_end : (f : ℕ) (row : List ℕ) → IsCountedTo sig depth cap f s row → sig.constructors ≤ f →
      IsCapped cap (values_of_size sig (depth + 1) s) row
  counted_end f row r h = record {
    long = r.long;
    each = λ n l. omega (
      arith,
      r.each n l,
      r.low n l,
      applied_end sig depth f s n h,
    );
  }

module _ (sig : Sig) (depth cap : ℕ) where
  -- numbers of rows of values: of no sorts, and of a sort and others
  pub value_rows_none : (ss : List SortId) (row : List ℕ) → ss ≡ [] →
      IsCapped cap (rows_of_size ([] ∷ [])) row → IsCapped cap (value_rows_of_size sig depth ss) row
  unfolding value_rows_of_size
  value_rows_none ss row e r = subst (λ (us : List SortId). IsCapped cap (value_rows_of_size sig depth us) row)
      (sym e) r

  pub value_rows_some : (s : SortId) (ss all : List SortId) (first rest row : List ℕ) → all ≡ s ∷ ss →
      IsCapped cap (values_of_size sig depth s) first → IsCapped cap (value_rows_of_size sig depth ss) rest →
      IsCapped cap (convolution (slice_index first) (slice_index rest)) row →
      IsCapped cap (value_rows_of_size sig depth all) row
  value_rows_some s ss all first rest row e a b r =
      let whole : IsCapped cap (value_rows_of_size sig depth (s ∷ ss)) row = record {
        long = r.long;
        each = λ n l. r.each n l ∙ convolution_capped cap (values_of_size sig depth s)
            (value_rows_of_size sig depth ss) first rest n a b l
            ∙ ap (λ k. min k cap) (sym (value_rows_first sig depth s ss n));
      } in
      subst (λ us. IsCapped cap (value_rows_of_size sig depth us) row) (sym e) whole

  -- the numbers of one more sort
  pub counts_pushed : (k : ℕ) (rows new : List (List ℕ)) (row : List ℕ) →
      ((s : SortId) (x : List ℕ) → slice_get rows s.0 ≡ Some x → IsCapped cap (values_of_size sig depth s) x) →
      length rows ≡ k → IsCapped cap (values_of_size sig depth (record { 0 = k })) row →
      new ≡ rows ++ row ∷ [] → (s : SortId) (x : List ℕ) → slice_get new s.0 ≡ Some x →
      IsCapped cap (values_of_size sig depth s) x
  counts_pushed k rows new row before long r e s x at =
      elim (one_past rows row x s.0 (subst (λ xs. slice_get xs s.0 ≡ Some x) e at)) [
        | inl a ↦ before s x a
        | inr a ↦
            let p : k ≡ s.0 = omega (arith, long, a.0) in
            let q : IsCapped cap (values_of_size sig depth s) row = subst
            (λ n. IsCapped cap (values_of_size sig depth (record { 0 = n })) row) p r in
            subst (λ xs. IsCapped cap (values_of_size sig depth s) xs) a.1 q
      ]
