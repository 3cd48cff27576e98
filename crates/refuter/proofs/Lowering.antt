-- The rows of fewest sizes, each by one pass over the constructors.
use Rattle.std.proofs.Common.{◌≡◌, ◌≢◌, ℕ, zero, suc, ◌+◌, ◌-◌, ◌<◌, ◌≤◌, min, List, [], ◌∷◌, ◌++◌, Bool, true, false}
use Rattle.std.proofs.Common.{eqb, Some, None, ◌⊎◌, inl, inr, refl, ap, sym, ◌∙◌, subst, arith, length, take}
use Rattle.std.proofs.Common.{replicate, set, get_or, get_or-set_same, get_or-set_other}
use Rattle.std.specs.Prelude.{slice_get, slice_index, option_map, sum, MatchBool}
use Rattle.std.specs.List.{AllByRecursion}
use Rattle.std.proofs.lemmas.List.{take_more, length_push, get_or-replicate, length-replicate}
use Rattle.term_core.specs.declared.ids.SortId.{SortId}
use Rattle.spec_core.specs.declared.records.SymInfo.{SymInfo}
use Rattle.spec_core.specs.Sig.{Sig, info_of, IsSort, SortsAreInRange}
use Rattle.spec_core.specs.Order.{constructors_from, constructors_of}
use Rattle.refuter.proofs.Numbers.{split_le}
use Rattle.refuter.specs.Fewest.{total, lowered, lowered_by, fewest, number_in, IsRowOf, AreRowsOf}
use Rattle.refuter.specs.After.{constructors_after}
use Rattle.refuter.proofs.Members.{all_cond}
use Rattle.refuter.proofs.Least.{lowered_to, lowered_not}
use Rattle.spec_core.proofs.Constructors.{constructor_here, constructor_other}
use Rattle.term_core.proofs.Numbers.{same_or_not}

total_append : (f : SortId → ℕ) (xs : List SortId) (y : SortId) → total f (xs ++ y ∷ []) ≡ total f xs + f y
total_append f [] y = omega arith
total_append f (x ∷ xs) y = omega (arith, total_append f xs y)

pub total_more : (f : SortId → ℕ) (ss : List SortId) (i : ℕ) (d : SortId) → i < length ss →
    total f (take (i + 1) ss) ≡ total f (take i ss) + f (get_or ss i d)
total_more f ss i d h = ap (λ xs. total f xs) (take_more ss i d h) ∙ total_append f (take i ss) (get_or ss i d)

pub total_same : (sig : Sig) (f g : SortId → ℕ) → ((s : SortId) → IsSort sig s → f s ≡ g s) →
    (ss : List SortId) → AllByRecursion (IsSort sig) ss → total f ss ≡ total g ss
total_same sig f g h [] a = refl
total_same sig f g h (s ∷ ss) a = omega (arith, h s a.0, total_same sig f g h ss a.1)

pub all_long : (n m : ℕ) → n ≡ m → (ss : List SortId) → AllByRecursion (λ s. s.0 < m) ss →
    AllByRecursion (λ s. s.0 < n) ss
all_long n m e ss a = subst (λ k. AllByRecursion (λ (s : SortId). s.0 < k) ss) (sym e) a

-- a constructor's application is smaller
pub lowers : (next : List ℕ) (place size t : ℕ) → place < length next → size ≡ 1 + min t 4096 → size ≤ 255 →
    size < slice_index next place → (s : SortId) → place ≡ s.0 →
    number_in (set next place size) s ≡ lowered (number_in next s) (1 + t)
lowers next place size t p e a b s q =
    let k : slice_index next place ≡ slice_index next s.0 = ap (λ n. slice_index next n) q in
    let l : slice_index (set next place size) s.0 ≡ slice_index (set next place size) place = ap
    (λ n. slice_index (set next place size) n) (sym q) in
    let m : slice_index (set next place size) place ≡ size = get_or-set_same next place size 0 p in
    let w = lowered_to (slice_index next s.0) (1 + t) (omega arith) in
    omega arith

pub lowers_others : (next : List ℕ) (place size : ℕ) (s : SortId) → place ≢ s.0 →
    number_in (set next place size) s ≡ number_in next s
lowers_others next place size s q = get_or-set_other next place s.0 size 0 (λ e. q (sym e))

-- a constructor's application isn't smaller
pub stays : (next : List ℕ) (place size t : ℕ) → size ≡ 1 + min t 4096 →
    (255 < size) ⊎ (slice_index next place ≤ size) → (s : SortId) → place ≡ s.0 →
    number_in next s ≡ lowered (number_in next s) (1 + t)
stays next place size t e h s q =
    let k : slice_index next place ≡ slice_index next s.0 = ap (λ n. slice_index next n) q in
    elim (split_le (1 + t) 255) [
      | inr a ↦ sym (lowered_not (slice_index next s.0) (1 + t) a)
      | inl a ↦ elim h [
        | inl b ↦ absurd (omega arith)
        | inr b ↦ omega (arith, lowered_to (slice_index next s.0) (1 + t) a)
      ]
    ]

pub one_past : {X : Type 0} (xs : List X) (x y : X) (i : ℕ) → slice_get (xs ++ x ∷ []) i ≡ Some y →
    (slice_get xs i ≡ Some y) ⊎ ((i ≡ length xs) × (x ≡ y))
one_past [] x y zero e = let q : Some x ≡ Some y = e in inr (refl, cc)
one_past [] x y (suc i) e = absurd (let q : None ≡ Some y = e in cc)
one_past (z ∷ xs) x y zero e = inl e
one_past (z ∷ xs) x y (suc i) e = elim (one_past xs x y i e) [ inl a ↦ inl a | inr a ↦ inr (omega (arith, a.0), a.1) ]

-- one more row
pub each_one : (sig : Sig) (rows : List (List ℕ)) (row : List ℕ) →
    ((depth : ℕ) (r : List ℕ) → slice_get rows depth ≡ Some r → IsRowOf sig depth r) →
    IsRowOf sig (length rows) row → (depth : ℕ) (r : List ℕ) → slice_get (rows ++ row ∷ []) depth ≡ Some r →
    IsRowOf sig depth r
each_one sig rows row each here depth r at = elim (one_past rows row r depth at) [
  | inl a ↦ each depth r a
  | inr a ↦ subst (λ x. IsRowOf sig depth x) a.1 (subst (λ d. IsRowOf sig d row) (sym a.0) here)
]

module _ (sig : Sig) where
  -- one more constructor of the pass
  pub each_more : (f g new : SortId → ℕ) (number : ℕ) (i : SymInfo) → info_of sig number ≡ Some i →
      number < sig.constructors →
      ((s : SortId) → i.result.0 ≡ s.0 → new s ≡ lowered (g s) (1 + total f i.args)) →
      ((s : SortId) → i.result.0 ≢ s.0 → new s ≡ g s) → (s : SortId) (x : ℕ) →
      lowered_by f (g s) (constructors_after sig number s) ≡ x →
      lowered_by f (new s) (constructors_after sig (number + 1) s) ≡ x
  unfolding constructors_after
  each_more f g new number i at h here other s x k =
      let rest = constructors_from (number + 1) (sig.constructors - (number + 1)) s in
      elim (same_or_not i.result.0 s.0) [
        | inl q ↦ ap (λ m. lowered_by f m (constructors_after sig (number + 1) s)) (here s q)
            ∙ sym (ap (λ cs. lowered_by f (g s) cs) (constructor_here sig number sig.constructors s i at h q)) ∙ k
        | inr q ↦ ap (λ m. lowered_by f m (constructors_after sig (number + 1) s)) (other s q)
            ∙ sym (ap (λ cs. lowered_by f (g s) cs) (constructor_other sig number sig.constructors s i at h q)) ∙ k
      ]

  pub each_start : (f : SortId → ℕ) (n m : ℕ) (s : SortId) → n ≡ m →
      lowered_by f n (constructors_after sig 0 s) ≡ lowered_by f m (constructors_of sig s)
  unfolding constructors_after
  each_start f n m s e =
      let z : sig.constructors - 0 ≡ sig.constructors = omega arith in
      rw (z, e) refl

  pub each_end : (f : SortId → ℕ) (n number : ℕ) (s : SortId) → sig.constructors ≤ number →
      lowered_by f n (constructors_after sig number s) ≡ n
  unfolding constructors_after
  each_end f n number s h =
      let z : sig.constructors - number ≡ 0 = omega arith in
      rw z refl

  args_in_range : (s : SortId) (es : List (List ℕ × SymInfo)) (f left : ℕ) →
      ((k : ℕ) (e : List ℕ × SymInfo) → slice_get es k ≡ Some e → AllByRecursion (IsSort sig) e.1.args) →
      AllByRecursion (λ (c : ℕ × List SortId). AllByRecursion (IsSort sig) c.1) (constructors_from f left s es)
  args_in_range s es f zero h = tt
  args_in_range s [] f (suc left) h = tt
  args_in_range s (e ∷ es) f (suc left) h = all_cond (λ (c : ℕ × List SortId). AllByRecursion (IsSort sig) c.1)
      (eqb e.1.result.0 s.0) (f, e.1.args) (constructors_from (suc f) left s es) (h 0 e refl)
      (args_in_range s es (suc f) left (λ k x q. h (suc k) x q))

  lowered_same : (f g : SortId → ℕ) → ((s : SortId) → IsSort sig s → f s ≡ g s) → (n m : ℕ) → n ≡ m →
      (cs : List (ℕ × List SortId)) → AllByRecursion (λ (c : ℕ × List SortId). AllByRecursion (IsSort sig) c.1)
      cs → lowered_by f n cs ≡ lowered_by g m cs
  lowered_same f g h n m e [] a = e
  lowered_same f g h n m e (c ∷ cs) a =
      let k : total f c.1 ≡ total g c.1 = total_same sig f g h c.1 a.0 in
      lowered_same f g h (lowered n (1 + total f c.1)) (lowered m (1 + total g c.1)) (rw (e, k) refl) cs a.1

  fewest_next : (depth : ℕ) (s : SortId) →
      fewest sig (suc depth) s ≡ lowered_by (λ u. fewest sig depth u) (fewest sig depth s) (constructors_of sig s)
  unfolding fewest
  fewest_next depth s = refl

  module _ (w : SortsAreInRange sig) where
    of_sort : (s : SortId) → AllByRecursion (λ (c : ℕ × List SortId). AllByRecursion (IsSort sig) c.1)
        (constructors_of sig s)
    of_sort s = args_in_range s sig.table 0 sig.constructors
        (λ k e q. (w k e.1 (ap (option_map (λ (x : List ℕ × SymInfo). x.1)) q)).1)

    -- the row that the pass makes
    pub row_more : (depth : ℕ) (row next : List ℕ) → IsRowOf sig depth row → length next ≡ length row →
        ((s : SortId) → IsSort sig s →
        number_in next s ≡ lowered_by (number_in row) (number_in row s) (constructors_of sig s)) →
        IsRowOf sig (depth + 1) next
    row_more depth row next r l h =
        let e : suc depth ≡ depth + 1 = omega arith in
        subst (λ d. IsRowOf sig d next) e (record {
          long = omega (arith, l, r.long);
          numbers = λ s k. h s k ∙ lowered_same (number_in row) (λ u. fewest sig depth u) (λ u q. r.numbers u q)
              (number_in row s) (fewest sig depth s) (r.numbers s k) (constructors_of sig s) (of_sort s)
              ∙ sym (fewest_next depth s);
        })

    -- if a pass lowers nothing, no later pass does
    settled : (depth : ℕ) → ((s : SortId) → IsSort sig s → fewest sig (suc depth) s ≡ fewest sig depth s) →
        (more : ℕ) (s : SortId) → IsSort sig s → fewest sig (more + depth) s ≡ fewest sig depth s
    settled depth h zero s k = ap (λ d. fewest sig d s) (let z : 0 + depth ≡ depth = omega arith in z)
    settled depth h (suc more) s k =
        let e : suc more + depth ≡ suc (more + depth) = omega arith in
        ap (λ d. fewest sig d s) e ∙ fewest_next (more + depth) s
        ∙ lowered_same (λ u. fewest sig (more + depth) u) (λ u. fewest sig depth u)
        (λ u q. settled depth h more u q) (fewest sig (more + depth) s) (fewest sig depth s)
        (settled depth h more s k) (constructors_of sig s) (of_sort s) ∙ sym (fewest_next depth s) ∙ h s k

    -- the row that serves a depth
    pub row_for : (rows : List (List ℕ)) (depth place : ℕ) (row : List ℕ) → AreRowsOf sig rows →
        place ≡ min depth (length rows - 1) → slice_get rows place ≡ Some row → IsRowOf sig depth row
    row_for rows depth place row r e at =
        let one = r.each place row at in
        elim (split_le depth (length rows - 1)) [
          | inl a ↦
              let q : place ≡ depth = omega arith in
              subst (λ d. IsRowOf sig d row) q one
          | inr a ↦
              let q : place ≡ length rows - 1 = omega arith in
              let m : suc (length rows - 1) ≡ length rows = omega (arith, r.some) in
              let n : (depth - (length rows - 1)) + (length rows - 1) ≡ depth = omega arith in
              record {
                long = one.long;
                numbers = λ s k. one.numbers s k ∙ ap (λ d. fewest sig d s) q
                    ∙ sym (settled (length rows - 1) (λ u j. ap (λ d. fewest sig d u) m ∙ r.last u j)
                    (depth - (length rows - 1)) s k) ∙ ap (λ d. fewest sig d s) n;
              }
        ]

    -- if nothing was lowered, the rows so far serve all depths
    pub rows_end : (rows : List (List ℕ)) (row next : List ℕ) →
        ((depth : ℕ) (r : List ℕ) → slice_get rows depth ≡ Some r → IsRowOf sig depth r) →
        IsRowOf sig (length rows) row → length next ≡ length row → next ≡ row →
        ((s : SortId) → IsSort sig s →
        number_in next s ≡ lowered_by (number_in row) (number_in row s) (constructors_of sig s)) →
        (new : List (List ℕ)) → new ≡ rows ++ row ∷ [] → AreRowsOf sig new
    rows_end rows row next each here l same h new e =
        let r = row_more (length rows) row next here l h in
        let n : length new ≡ length rows + 1 = ap length e ∙ length_push rows row in
        let k : length new - 1 ≡ length rows = omega arith in
        record {
          some = omega arith;
          each = λ depth x at. each_one sig rows row each here depth x (subst (λ xs. slice_get xs depth ≡ Some x) e at);
          last = λ s q. ap (λ d. fewest sig d s) n ∙ sym (r.numbers s q) ∙ ap (λ xs. number_in xs s) same
              ∙ here.numbers s q ∙ ap (λ d. fewest sig d s) (sym k);
        }

pub fell_more : (b : Bool) (new next row : List ℕ) → MatchBool b (sum next < sum row) (next ≡ row) →
    sum new < sum next → sum new < sum row
fell_more true new next row h l = omega arith
fell_more false new next row h l = omega (arith, ap (λ xs. sum xs) h)

-- the row of depth 0
pub row_start : (sig : Sig) (row : List ℕ) (n : ℕ) → n ≡ length sig.sorts → row ≡ replicate n 4096 → IsRowOf sig 0 row
unfolding fewest
row_start sig row n e is = record {
  long = ap (λ xs. length xs) is ∙ length-replicate n 4096 ∙ e;
  numbers = λ s k. ap (λ xs. number_in xs s) is ∙ get_or-replicate n s.0 4096 0 (omega arith);
}

pub not_lowered : (b : Bool) (next row : List ℕ) → b ≡ false → MatchBool b (sum next < sum row) (next ≡ row) →
    next ≡ row
not_lowered false next row e h = h
not_lowered true next row e h = absurd (let q : true ≡ false = e in cc)
