-- `cover` says one thing: a pattern has one list of sorts of its variables.
use Rattle.std.proofs.Common.{◌≡◌, ℕ, zero, suc, ◌+◌, ◌<◌, List, [], ◌∷◌, Some, map, inl, inr, refl, ap, sym, ◌∙◌}
use Rattle.std.proofs.Common.{subst, arith, length}
use Rattle.std.specs.Prelude.{slice_get, zip}
use Rattle.std.specs.List.{range_with_len, AllZip}
use Rattle.std.proofs.lemmas.List.FromFn.{length-range_with_len}
use Rattle.term_core.specs.Tree.{Tree, Trees, var, app, none, some}
use Rattle.term_core.specs.Variables.{occurrences, occurrences_all}
use Rattle.term_core.specs.declared.ids.SortId.{SortId}
use Rattle.term_core.proofs.Members.{In}
use Rattle.spec_core.specs.declared.records.Spec.{Spec}
use Rattle.spec_core.specs.declared.records.SymInfo.{SymInfo}
use Rattle.spec_core.specs.Sig.{Sig}
use Rattle.spec_core.specs.Sorts.{Sorted, SortedAll}
use Rattle.clause_core.specs.declared.clauses.Clause.{Clause}
use Rattle.clause_core.specs.declared.clauses.Relation.TheVariants.{Same}
use Rattle.clause_core.proofs.Multisets.{in_either}
use Rattle.clause_core.specs.Rows.{child}
use Rattle.clause_core.specs.Patterns.{IsPatternOf, AreCovering}
use Rattle.clause_core.specs.Covering.{covered_by, cover_row}
use Rattle.clause_core.proofs.OneAnswer.{Agree, forth, back}

-- if one pattern is sorted over two contexts, a variable that occurs in it has one sort
mutual
  same_sorts : (sig : Sig) (a b : List SortId) (t : Tree) (s : SortId) → Sorted sig a t s → Sorted sig b t s →
      (n : ℕ) → In n (occurrences t) → slice_get a n ≡ slice_get b n
  same_sorts sig a b (var m) s p q n (inl e) = ap (λ k. slice_get a k) e ∙ p ∙ sym q ∙ ap (λ k. slice_get b k) (sym e)
  same_sorts sig a b (var m) s p q n (inr e) = absurd e
  same_sorts sig a b (app f ts) s p q n i =
      let e : Some p.0 ≡ Some q.0 = sym p.1 ∙ q.1 in
      let k : p.0 ≡ q.0 = cc in
      same_all_sorts sig a b ts p.0.args p.3 (subst (λ (x : SymInfo). SortedAll sig b ts x.args) (sym k) q.3) n i

  same_all_sorts : (sig : Sig) (a b : List SortId) (ts : Trees) (ss : List SortId) → SortedAll sig a ts ss →
      SortedAll sig b ts ss → (n : ℕ) → In n (occurrences_all ts) → slice_get a n ≡ slice_get b n
  same_all_sorts sig a b none ss p q n i = absurd i
  same_all_sorts sig a b (some t ts) [] p q n i = absurd p
  same_all_sorts sig a b (some t ts) (s ∷ ss) p q n i = elim
      (in_either n (occurrences t) (occurrences_all ts) i)
      [ inl h ↦ same_sorts sig a b t s p.0 q.0 n h | inr h ↦ same_all_sorts sig a b ts ss p.1 q.1 n h ]

pub in_range : (n from count : ℕ) → n < count → In (from + n) (range_with_len from count)
in_range n from zero l = absurd (omega arith)
in_range zero from (suc count) l = inl (omega arith)
in_range (suc n) from (suc count) l = inr (let e : (from + 1) + n ≡ from + suc n = omega arith in
    subst (λ m. In m (range_with_len (from + 1) count)) e (in_range n (from + 1) count (omega arith)))

same_gets : (a b : List SortId) → length a ≡ length b → ((n : ℕ) → n < length a → slice_get a n ≡ slice_get b n) → a ≡ b
same_gets [] [] l h = refl
same_gets [] (y ∷ ys) l h = absurd (omega arith)
same_gets (x ∷ xs) [] l h = absurd (omega arith)
same_gets (x ∷ xs) (y ∷ ys) l h =
    let e : Some x ≡ Some y = h 0 (omega arith) in
    let p : x ≡ y = cc in
    let q : xs ≡ ys = same_gets xs ys (omega arith) (λ n lt. h (suc n) (omega arith)) in
    λ i. p i ∷ q i

-- a pattern has one list of sorts of its variables
pattern_one : (sig : Sig) (s : SortId) (p : Tree) (a b : List SortId) → IsPatternOf sig s a p →
    IsPatternOf sig s b p → a ≡ b
pattern_one sig s p a b m n =
    let ranges : range_with_len 0 (length a) ≡ range_with_len 0 (length b) = sym m.numbered ∙ n.numbered in
    let lengths : length a ≡ length b = sym (length-range_with_len 0 (length a))
    ∙ ap (λ (xs : List ℕ). length xs) ranges ∙ length-range_with_len 0 (length b) in
    same_gets a b lengths
    (λ k l. same_sorts sig a b p s m.sorted n.sorted k
    (subst (λ (xs : List ℕ). In k xs) (sym m.numbered) (let e : 0 + k ≡ k = omega arith in
    subst (λ j. In j (range_with_len 0 (length a))) e (in_range k 0 (length a) l))))

patterns_one : (sig : Sig) (s : SortId) (as_ bs : List (List SortId)) (ps : List Tree) →
    AllZip (IsPatternOf sig s) as_ ps → AllZip (IsPatternOf sig s) bs ps → as_ ≡ bs
patterns_one sig s [] [] [] m n = refl
patterns_one sig s [] [] (p ∷ ps) m n = absurd m
patterns_one sig s [] (b ∷ bs) [] m n = absurd n
patterns_one sig s [] (b ∷ bs) (p ∷ ps) m n = absurd m
patterns_one sig s (a ∷ as_) bs [] m n = absurd m
patterns_one sig s (a ∷ as_) [] (p ∷ ps) m n = absurd n
patterns_one sig s (a ∷ as_) (b ∷ bs) (p ∷ ps) m n =
    let h : a ≡ b = pattern_one sig s p a b m.0 n.0 in
    let k : as_ ≡ bs = patterns_one sig s as_ bs ps m.1 n.1 in
    λ i. h i ∷ k i

module _ (spec : Spec) (c : Clause) where
  pub cover_one : (n : ℕ) (ps : List Tree) → Agree (cover_row spec c n ps) (cover_row spec c n ps)
  cover_one n ps = (
    λ p. p,
    λ p. p,
    refl,
    λ a b.
        let q : Some a.sort ≡ Some b.sort = sym a.is ∙ b.is in
        let e : a.sort ≡ b.sort = cc in (
          forth (λ s. AreCovering spec.sig s ps) e,
          back (λ s. AreCovering spec.sig s ps) e,
          refl,
          λ m k.
              let w : a.contexts ≡ b.contexts = patterns_one spec.sig a.sort a.contexts b.contexts ps a.each
              (subst (λ s. AllZip (IsPatternOf spec.sig s) b.contexts ps) (sym e) b.each) in
              (λ i. map (λ (x : List SortId × Tree). child Same (covered_by c n x)) (zip (w i) ps), refl),
        ),
  )
