-- A pattern whose variables are numbered from a number on has each of them once.
use Rattle.std.proofs.Common.{◌≡◌, ℕ, zero, suc, ◌+◌, ◌<◌, ◌≤◌, List, [], ◌∷◌, ◌++◌, length, inl, inr, refl, ap, sym}
use Rattle.std.proofs.Common.{◌∙◌, subst, arith}
use Rattle.std.specs.List.{range_with_len}
use Rattle.std.proofs.lemmas.List.FromFn.{length-range_with_len}
use Rattle.term_core.specs.Tree.{Tree, Trees, var, app, none, some}
use Rattle.term_core.specs.Variables.{occurrences, occurrences_all, Occurs, OccursAny}
use Rattle.term_core.proofs.Members.{In}
use Rattle.spec_core.specs.Linear.{OccursTwice, OccurTwice}

in_left : (n : ℕ) (xs ys : List ℕ) → In n xs → In n (xs ++ ys)
in_left n [] ys i = absurd i
in_left n (x ∷ xs) ys (inl e) = inl e
in_left n (x ∷ xs) ys (inr i) = inr (in_left n xs ys i)

in_right : (n : ℕ) (xs ys : List ℕ) → In n ys → In n (xs ++ ys)
in_right n [] ys i = i
in_right n (x ∷ xs) ys i = inr (in_right n xs ys i)

mutual
  occurring : (n : ℕ) (t : Tree) → Occurs n t → In n (occurrences t)
  occurring n (var m) o = inl o
  occurring n (app f ts) o = all_occurring n ts o

  all_occurring : (n : ℕ) (ts : Trees) → OccursAny n ts → In n (occurrences_all ts)
  all_occurring n none o = absurd o
  all_occurring n (some t ts) (inl o) = in_left n (occurrences t) (occurrences_all ts) (occurring n t o)
  all_occurring n (some t ts) (inr o) = in_right n (occurrences t) (occurrences_all ts) (all_occurring n ts o)

in_range : (n from count : ℕ) → In n (range_with_len from count) → (from ≤ n) × (n < from + count)
in_range n from zero i = absurd i
in_range n from (suc count) (inl e) = (omega (arith, e), omega (arith, e))
in_range n from (suc count) (inr i) =
    let h = in_range n (from + 1) count i in
    (omega (arith, h.0), omega (arith, h.1))

-- the two parts of numbers in a row are numbers in a row
pub both_ranges :
    (xs ys : List ℕ) (from count : ℕ) → xs ++ ys ≡ range_with_len from count →
    (xs ≡ range_with_len from (length xs)) × (ys ≡ range_with_len (from + length xs) (length ys))
both_ranges [] ys from count e =
    let counted : length ys ≡ count = ap (λ (ns : List ℕ). length ns) e ∙ length-range_with_len from count in
    let start : from + 0 ≡ from = omega arith in
    (refl, e ∙ (λ i. range_with_len (sym start i) (sym counted i)))
both_ranges (x ∷ xs) ys from zero e = absurd (let q : ◌≡◌ {A = List ℕ} (x ∷ (xs ++ ys)) [] = e in cc)
both_ranges (x ∷ xs) ys from (suc count) e =
    let q : x ∷ (xs ++ ys) ≡ from ∷ range_with_len (from + 1) count = e in
    let first : x ≡ from = cc in
    let rest = both_ranges xs ys (from + 1) count (cc) in
    let start : (from + 1) + length xs ≡ from + suc (length xs) = omega arith in
    ((λ i. first i ∷ rest.0 i), rest.1 ∙ ap (λ k. range_with_len k (length ys)) start)

mutual
  once : (t : Tree) (from count : ℕ) → occurrences t ≡ range_with_len from count → (n : ℕ) → OccursTwice n t → ⊥
  once (var m) from count e n o = o
  once (app f ts) from count e n o = all_once ts from count e n o

  all_once : (ts : Trees) (from count : ℕ) → occurrences_all ts ≡ range_with_len from count → (n : ℕ) →
      OccurTwice n ts → ⊥
  all_once none from count e n o = o
  all_once (some t ts) from count e n (inl o) = once t from _
      (both_ranges (occurrences t) (occurrences_all ts) from count e).0 n o
  all_once (some t ts) from count e n (inr (inl o)) =
      let h = both_ranges (occurrences t) (occurrences_all ts) from count e in
      let early = in_range n from (length (occurrences t)) (subst (λ ns. In n ns) h.0 (occurring n t o.0)) in
      let late = in_range n (from + length (occurrences t)) (length (occurrences_all ts))
      (subst (λ ns. In n ns) h.1 (all_occurring n ts o.1)) in
      omega (arith, early.1, late.0)
  all_once (some t ts) from count e n (inr (inr o)) = all_once ts _ _
      (both_ranges (occurrences t) (occurrences_all ts) from count e).1 n o

pub numbered_once : (p : Tree) (from count : ℕ) → occurrences p ≡ range_with_len from count → (n : ℕ) →
    OccurTwice n (some p none) → ⊥
numbered_once p from count e n (inl o) = once p from count e n o
numbered_once p from count e n (inr (inl o)) = o.1
numbered_once p from count e n (inr (inr o)) = o
