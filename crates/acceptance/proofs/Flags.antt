-- What the first elements of a list are, one after the other, and children and references of a node as elements.
use Rattle.std.proofs.Common.{◌≡◌, ◌⊎◌, ℕ, zero, suc, ◌+◌, ◌≤◌, ◌<◌, List, [], ◌∷◌, Some, None, take, map, length}
use Rattle.std.proofs.Common.{get_or, inl, inr, refl, sym, ◌∙◌, ap, subst, arith}
use Rattle.std.specs.Prelude.{slice_get, sum}
use Rattle.std.proofs.lemmas.List.Sums.{sum-map, sum_by-cons}
use Rattle.std.proofs.lemmas.Option.{slice_get_within, slice_get_read, slice_get-get_or}
use Rattle.clause_core.specs.declared.clauses.Relation.{Relation}
use Rattle.clause_core.specs.declared.answers.Child.{Child}
use Rattle.clause_core.specs.declared.answers.Children.{Children}
use Rattle.clause_core.specs.declared.answers.Reference.{Reference}
use Rattle.acceptance.specs.Strict.{first_child, HasChild, RefersTo}
use Rattle.acceptance.specs.AllowedAnswers.{IsWholeBlock}

-- this is so of each of the first n elements, with its place
abbrev pub FirstAre : {X : Type 0} → (ℕ → X → Type 0) → List X → ℕ → Type 0
FirstAre {X = X} P xs n = (i : ℕ) (x : X) → i < n → slice_get xs i ≡ Some x → P i x

same_or_before : (i n : ℕ) → i < n + 1 → (i ≡ n) ⊎ (i < n)
same_or_before i n l = grind arith

-- an element as the code reads it
pub read : {X : Type 0} (xs : List X) (n : ℕ) (x : X) → n < length xs → x ≡ get_or xs n x → slice_get xs n ≡ Some x
read xs n x here is = slice_get_read xs (length xs) n x refl here is

pub first_more : {X : Type 0} (P : ℕ → X → Type 0) (xs : List X) (n : ℕ) (x : X) → slice_get xs n ≡ Some x →
    P n x → FirstAre P xs n → FirstAre P xs (n + 1)
first_more P xs n x at p h i y l get = elim (same_or_before i n l) [
  | inl e ↦ (
      let q : Some x ≡ Some y = sym at ∙ ap (λ k. slice_get xs k) (sym e) ∙ get in
      let w : x ≡ y = cc in
      subst (λ z. P i z) w (subst (λ k. P k x) (sym e) p)
      )
  | inr m ↦ h i y m get
]

-- how many children there are
abbrev counted : List Children → ℕ
counted made = sum (map (λ (m : Children). length m.clauses) made)

counted_cons : (m : Children) (ms : List Children) → counted (m ∷ ms) ≡ length m.clauses + counted ms
counted_cons m ms = sum-map (λ (x : Children). length x.clauses) (m ∷ ms)
    ∙ sum_by-cons (λ (x : Children). length x.clauses) m ms
    ∙ ap (λ n. length m.clauses + n) (sym (sum-map (λ (x : Children). length x.clauses) ms))

counted_taken : (made : List Children) (k : ℕ) (own : Children) → slice_get made k ≡ Some own →
    (counted (take (suc k) made) ≡ counted (take k made) + length own.clauses)
    × (counted (take k made) + length own.clauses ≤ counted made)
counted_taken [] k own is = absurd (let q : None ≡ Some own = is in cc)
counted_taken (m ∷ ms) zero own is =
    let q : Some m ≡ Some own = is in
    let e : m ≡ own = cc in
    let n : length m.clauses ≡ length own.clauses = ap (λ (x : Children). length x.clauses) e in
    (omega (arith, counted_cons m [], n), omega (arith, counted_cons m ms, n))
counted_taken (m ∷ ms) (suc k) own is =
    let r = counted_taken ms k own is in (
      omega (arith, r.0, counted_cons m (take k ms), counted_cons m (take (suc k) ms)),
      omega (arith, r.1, counted_cons m (take k ms), counted_cons m ms),
    )

-- the children of the next node are numbered after those of this one
pub next_child : (made : List Children) (k : ℕ) (own : Children) → slice_get made k ≡ Some own →
    first_child made (suc k) ≡ first_child made k + length own.clauses
next_child made k own is = let p = counted_taken made k own is in omega (arith, p.0)

-- the children of a node are nodes
pub children_within : (made : List Children) → IsWholeBlock made → (k : ℕ) (own : Children) →
    slice_get made k ≡ Some own → first_child made k + length own.clauses ≤ length made
children_within made whole k own is = let p = counted_taken made k own is in omega (arith, p.1, whole.counted)

-- a node of a block, the number of its first child, and its children as the code reads them
module _ (made : List Children) (k : ℕ) (lt : k < length made) (own : Children) where
  entry : slice_get made k ≡ Some (get_or made k own)
  entry = slice_get-get_or made k own lt

  same_entry : (m : Children) → slice_get made k ≡ Some m → m ≡ get_or made k own
  same_entry m at = let q : Some m ≡ Some (get_or made k own) = sym at ∙ entry in cc

  module _ (first : ℕ) (counts : first ≡ first_child made k) (items : List Child)
      (e : items ≡ (get_or made k own).clauses) where
    -- a child is a node of the block
    pub child_within : IsWholeBlock made → (i : ℕ) → i < length items → first + i < length made
    child_within whole i l =
        let n : length items ≡ length (get_or made k own).clauses = ap (λ (ds : List Child). length ds) e in
        omega (arith, children_within made whole k (get_or made k own) entry, counts, l, n)

    -- what is so of each of these is so of each child
    pub all_children : (P : ℕ → Relation → Type 0) (n : ℕ) → length items ≤ n →
        FirstAre (λ i (d : Child). P (first + i) d.relation) items n → (j : ℕ) (r : Relation) →
        HasChild made k j r → P j r
    all_children P n end h j r (m, i, d, at, get, rel, num) =
        let clauses : m.clauses ≡ items = ap (λ (x : Children). x.clauses) (same_entry m at) ∙ sym e in
        let got : slice_get items i ≡ Some d = subst (λ xs. slice_get xs i ≡ Some d) clauses get in
        let number : first + i ≡ j = ap (λ x. x + i) counts ∙ sym num in
        let here : i < n = omega (arith, slice_get_within items i d got, end) in
        subst (λ x. P x r) number (subst (λ q. P (first + i) q) rel (h i d here got))

    pub one_child : (i : ℕ) (d : Child) → slice_get items i ≡ Some d → HasChild made k (first + i) d.relation
    one_child i d got =
        (get_or made k own, i, d, entry, subst (λ xs. slice_get xs i ≡ Some d) e got, refl, ap (λ x. x + i) counts)

  module _ (items : List Reference) (e : items ≡ (get_or made k own).refs) where
    pub all_references : (P : ℕ → Relation → Type 0) (n : ℕ) → length items ≤ n →
        FirstAre (λ i (d : Reference). P d.node d.relation) items n → (j : ℕ) (r : Relation) →
        RefersTo made k j r → P j r
    all_references P n end h j r (m, i, d, at, get, rel, num) =
        let refs : m.refs ≡ items = ap (λ (x : Children). x.refs) (same_entry m at) ∙ sym e in
        let got : slice_get items i ≡ Some d = subst (λ xs. slice_get xs i ≡ Some d) refs get in
        let here : i < n = omega (arith, slice_get_within items i d got, end) in
        subst (λ x. P x r) (sym num) (subst (λ q. P d.node q) rel (h i d here got))

    pub one_reference : (i : ℕ) (d : Reference) → slice_get items i ≡ Some d → RefersTo made k d.node d.relation
    one_reference i d got =
        (get_or made k own, i, d, entry, subst (λ xs. slice_get xs i ≡ Some d) e got, refl, refl)
