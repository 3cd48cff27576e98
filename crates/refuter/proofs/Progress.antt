-- Where a walk is in the rows of some sorts: the row that it is at, and those that are left.
use Rattle.std.proofs.Common.{◌≡◌, ℕ, zero, suc, ◌*◌, ◌≤◌, List, [], ◌∷◌, ◌++◌, Bool, true, false, cond, refl, ap, sym}
use Rattle.std.proofs.Common.{subst, arith, length, take, drop}
use Rattle.std.specs.Prelude.{map, filter, slice_get, nat_le}
use Rattle.std.specs.List.{AllByRecursion, Contains, flat_map}
use Rattle.term_core.specs.Tree.{Tree, app, tree_size, sizes, trees_of}
use Rattle.term_core.specs.declared.ids.SortId.{SortId}
use Rattle.spec_core.specs.declared.records.Spec.{Spec}
use Rattle.spec_core.specs.declared.records.VarInfo.{VarInfo}
use Rattle.spec_core.specs.Sig.{Sig, IsSort}
use Rattle.spec_core.specs.WellSorted.{sorts_of}
use Rattle.spec_core.specs.Truth.{AreValuesOf}
use Rattle.spec_core.specs.Order.{product, constructors_of, values, is_small}
use Rattle.refuter.proofs.Numbers.{le_true, true_le}
use Rattle.term_core.proofs.Members.{In, all_in, in_contained, contained_in}
use Rattle.refuter.specs.Blocks.{rows_of}
use Rattle.refuter.specs.Bounded.{rows_within}
use Rattle.refuter.specs.After.{rows_after}
use Rattle.refuter.specs.Moves.{GoesOn}
use Rattle.value_bank.specs.Cells.{Cell, AreTerms}
use Rattle.rule_code.proofs.Joined.{joined}
use Rattle.refuter.proofs.InLists.{first_in}
use Rattle.refuter.proofs.Members.{all_flat_map, all_map}
use Rattle.refuter.proofs.Chains.{first_row, next_row}
use Rattle.refuter.proofs.Steps.{goes_true, goes_false, no_first}

all_kept : {X : Type 0} (p : X → Bool) (xs : List X) → AllByRecursion (λ x. p x ≡ true) xs → filter p xs ≡ xs
all_kept p [] a = refl
all_kept p (x ∷ xs) a = let h : p x ≡ true = a.0 in rw h (ap (λ ys. x ∷ ys) (all_kept p xs a.1))

all_filtered : {X : Type 0} (p : X → Bool) (P : X → Type 0) → ((x : X) → p x ≡ true → P x) → (xs : List X) →
    AllByRecursion P (filter p xs)
all_filtered p P h [] = tt
all_filtered p P h (x ∷ xs) = by (p x) (λ e. h x e) (all_filtered p P h xs)
  where
    by : (b : Bool) → (b ≡ true → P x) → AllByRecursion P (filter p xs) →
        AllByRecursion P (cond b (x ∷ filter p xs) (filter p xs))
    by true f a = (f refl, a)
    by false f a = a

module _ (sig : Sig) where
  pub values_small : (depth : ℕ) (s : SortId) → AllByRecursion (λ t. tree_size t ≤ 255) (values sig depth s)
  values_small zero s = tt
  values_small (suc depth) s = all_filtered is_small (λ t. tree_size t ≤ 255)
      (λ t e. true_le (tree_size t) 255 e)
      (flat_map (λ (c : ℕ × List SortId). map (λ ts. app c.0 (trees_of ts))
      (product (map (λ u. values sig depth u) c.1))) (constructors_of sig s))

  rows_small : (depth : ℕ) (ss : List SortId) →
      AllByRecursion (λ r. sizes (trees_of r) ≤ 255 * length ss) (product (map (λ s. values sig depth s) ss))
  rows_small depth [] = (omega arith, tt)
  rows_small depth (s ∷ ss) =
      all_flat_map (λ t. tree_size t ≤ 255) (λ r. sizes (trees_of r) ≤ 255 * length (s ∷ ss))
      (λ t. map (λ r. t ∷ r) (product (map (λ u. values sig depth u) ss))) (values sig depth s)
      (values_small depth s) (λ t a.
      all_map (λ r. sizes (trees_of r) ≤ 255 * length ss) (λ r. sizes (trees_of r) ≤ 255 * length (s ∷ ss))
      (λ r. t ∷ r) (product (map (λ u. values sig depth u) ss)) (rows_small depth ss) (λ r b. omega arith))

  all_true : (a b : ℕ) (rows : List (List Tree)) → a ≤ b → AllByRecursion (λ r. sizes (trees_of r) ≤ a) rows →
      AllByRecursion (λ r. nat_le (sizes (trees_of r)) b ≡ true) rows
  all_true a b [] h w = tt
  all_true a b (r ∷ rows) h w = let k : sizes (trees_of r) ≤ a = w.0 in
      (le_true (sizes (trees_of r)) b (omega arith), all_true a b rows h w.1)

  -- as many times 255 symbols as there are sorts are enough for every row
  pub whole : (depth : ℕ) (ss : List SortId) (bound : ℕ) → 255 * length ss ≤ bound →
      rows_within sig depth ss bound ≡ rows_of sig depth ss
  unfolding rows_within
  whole depth ss bound h = all_kept _ (rows_of sig depth ss)
      (all_true (255 * length ss) bound (rows_of sig depth ss) h (rows_small depth ss))

  -- the first values are at the places, and then those of the first row that is left
  pub record Here (cells : List Cell) (depth : ℕ) (ss : List SortId) (bound : ℕ) (rest : List (List Tree))
      (firsts : List Tree) (places : List ℕ) : Type 0 where
    pub row : List Tree
    pub is : rest ≡ row ∷ rows_after sig depth ss bound row
    pub listed : Contains (rows_within sig depth ss bound) row
    pub stand : AreTerms cells places (trees_of (firsts ++ row))

  -- the same; or no row is left, and the first values are at the places
  abbrev pub IsAt : List Cell → ℕ → List SortId → ℕ → List (List Tree) → List Tree → List ℕ → Bool → Type 0
  IsAt cells depth ss bound rest firsts places false = (rest ≡ []) × AreTerms cells places (trees_of firsts)
  IsAt cells depth ss bound rest firsts places true = Here cells depth ss bound rest firsts places

  pub starts : (cells : List Cell) (depth : ℕ) (ss : List SortId) (bound : ℕ) (firsts : List Tree)
      (old places : List ℕ) (more : Bool) → AreTerms cells old (trees_of firsts) →
      GoesOn cells old (slice_get (rows_within sig depth ss bound) 0) places more →
      IsAt cells depth ss bound (rows_within sig depth ss bound) firsts places more
  starts cells depth ss bound firsts old places false h g =
      let w = goes_false cells old (slice_get (rows_within sig depth ss bound) 0) places false g refl in
      (no_first (rows_within sig depth ss bound) w.0, subst (λ ps. AreTerms cells ps (trees_of firsts)) (sym w.1) h)
  starts cells depth ss bound firsts old places true h g =
      let w = goes_true cells old (slice_get (rows_within sig depth ss bound) 0) places true g refl in
      record {
        row = w.values;
        is = first_row sig depth ss bound w.values w.is;
        listed = contained_in (rows_within sig depth ss bound) w.values
            (first_in (rows_within sig depth ss bound) w.values w.is);
        stand = subst (λ ps. AreTerms cells ps (trees_of (firsts ++ w.values))) (sym w.row_is)
            (joined cells old w.places firsts w.values h w.stand);
      }

  pub moves : (cells : List Cell) (depth : ℕ) (ss : List SortId) (bound : ℕ) (firsts row : List Tree)
      (kept places : List ℕ) (more : Bool) → Contains (rows_within sig depth ss bound) row →
      AreTerms cells kept (trees_of firsts) →
      GoesOn cells kept (slice_get (rows_after sig depth ss bound row) 0) places more →
      IsAt cells depth ss bound (rows_after sig depth ss bound row) firsts places more
  moves cells depth ss bound firsts row kept places false listed h g =
      let w = goes_false cells kept (slice_get (rows_after sig depth ss bound row) 0) places false g refl in
      (no_first (rows_after sig depth ss bound row) w.0, subst (λ ps. AreTerms cells ps (trees_of firsts)) (sym w.1) h)
  moves cells depth ss bound firsts row kept places true listed h g =
      let w = goes_true cells kept (slice_get (rows_after sig depth ss bound row) 0) places true g refl in
      let n = next_row sig depth ss bound row w.values
      (in_contained (rows_within sig depth ss bound) row listed) w.is in
      record {
        row = w.values;
        is = n.0;
        listed = contained_in (rows_within sig depth ss bound) w.values n.1;
        stand = subst (λ ps. AreTerms cells ps (trees_of (firsts ++ w.values))) (sym w.row_is)
            (joined cells kept w.places firsts w.values h w.stand);
      }

  pub here : (cells : List Cell) (depth : ℕ) (ss : List SortId) (bound : ℕ) (rest : List (List Tree))
      (firsts : List Tree) (places : List ℕ) (more : Bool) → more ≡ true →
      IsAt cells depth ss bound rest firsts places more → Here cells depth ss bound rest firsts places
  here cells depth ss bound rest firsts places false b s = absurd (let q : false ≡ true = b in cc)
  here cells depth ss bound rest firsts places true b s = s

  pub none_left : (cells : List Cell) (depth : ℕ) (ss : List SortId) (bound : ℕ) (rest : List (List Tree))
      (firsts : List Tree) (places : List ℕ) (more : Bool) → more ≡ false →
      IsAt cells depth ss bound rest firsts places more → (rest ≡ []) × AreTerms cells places (trees_of firsts)
  none_left cells depth ss bound rest firsts places false b s = s
  none_left cells depth ss bound rest firsts places true b s = absurd (let q : true ≡ false = b in cc)

  -- the values of a row have at most 255 symbols
  pub row_small : (depth : ℕ) (ss : List SortId) (row : List Tree) →
      In row (product (map (λ s. values sig depth s) ss)) → AllByRecursion (λ t. tree_size t ≤ 255) row
  row_small depth ss row a = all_in (λ r. AllByRecursion (λ t. tree_size t ≤ 255) r)
      (product (map (λ s. values sig depth s) ss)) row (all_small depth ss) a
    where
      all_small : (depth : ℕ) (ss : List SortId) →
          AllByRecursion (λ r. AllByRecursion (λ t. tree_size t ≤ 255) r) (product (map (λ s. values sig depth s) ss))
      all_small depth [] = (tt, tt)
      all_small depth (s ∷ ss) =
          all_flat_map (λ t. tree_size t ≤ 255) (λ r. AllByRecursion (λ t. tree_size t ≤ 255) r)
          (λ t. map (λ r. t ∷ r) (product (map (λ u. values sig depth u) ss))) (values sig depth s)
          (values_small depth s) (λ t a.
          all_map (λ r. AllByRecursion (λ t. tree_size t ≤ 255) r)
          (λ r. AllByRecursion (λ t. tree_size t ≤ 255) r) (λ r. t ∷ r)
          (product (map (λ u. values sig depth u) ss)) (all_small depth ss) (λ r b. (a, b)))

-- the sorts of a goal's variables are sorts of the signature
pub variables_are : (sig : Sig) (vars : List VarInfo) →
    AllByRecursion (λ (v : VarInfo). IsSort sig v.sort) vars → AllByRecursion (IsSort sig) (sorts_of vars)
variables_are sig [] a = tt
variables_are sig (v ∷ vars) a = (a.0, variables_are sig vars a.1)

-- values of sorts are as many as the sorts
pub as_many : (spec : Spec) (ss : List SortId) (ts : List Tree) → AreValuesOf spec ss ts → length ts ≡ length ss
as_many spec [] [] h = refl
as_many spec [] (t ∷ ts) h = absurd h
as_many spec (s ∷ ss) [] h = absurd h
as_many spec (s ∷ ss) (t ∷ ts) h = ap suc (as_many spec ss ts h.1)

-- the places of the first values, and of the others
pub parted_terms : (cells : List Cell) (ps : List ℕ) (us vs : List Tree) →
    AreTerms cells ps (trees_of (us ++ vs)) → (length us ≤ length ps)
    × AreTerms cells (take (length us) ps) (trees_of us) × AreTerms cells (drop (length us) ps) (trees_of vs)
parted_terms cells ps [] vs h = (omega arith, tt, h)
parted_terms cells [] (u ∷ us) vs h = absurd h
parted_terms cells (p ∷ ps) (u ∷ us) vs h =
    let w = parted_terms cells ps us vs h.1 in
    (omega (arith, w.0), (h.0, w.1), w.2)
