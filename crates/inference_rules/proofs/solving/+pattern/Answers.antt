use Rattle.std.proofs.Common.{◌≡◌, ℕ, zero, suc, ◌<◌, List, [], ◌∷◌, true, false, inl, inr, refl, sym, subst, length}
use Rattle.std.proofs.Common.{get_or, take, add-one, arith}
use Rattle.term_core.specs.Tree.{Tree, trees_of}
use Rattle.term_core.specs.Variables.{Occurs, OccursAny}
use Rattle.term_core.proofs.Trees.{weight-member}
use Rattle.spec_core.specs.Sig.{Sig}
use Rattle.spec_core.specs.WellSorted.{IsPattern, ArePatterns}
use Rattle.inference_rules.proofs.solving.+pattern.Goals as goal

module _ (sig : Sig) (n : ℕ) where
  pattern_here : (ts : List Tree) (i : ℕ) (t : Tree) → i < length ts → t ≡ get_or ts i t →
      ArePatterns sig (trees_of ts) × (OccursAny n (trees_of ts) → ⊥) → IsPattern sig t × (Occurs n t → ⊥)
  pattern_here [] i t lt is h = absurd (omega arith)
  pattern_here (u ∷ us) zero t lt is h = (
    subst (λ x. IsPattern sig x) (sym is) h.0.0,
    λ o. h.1 (inl (subst (λ x. Occurs n x) is o)),
  )
  pattern_here (u ∷ us) (suc i) t lt is h = pattern_here us i t (omega arith) is (h.0.1, λ o. h.1 (inr o))

  patterns_more : (ts : List Tree) (i : ℕ) (t : Tree) → i < length ts → t ≡ get_or ts i t →
      ArePatterns sig (trees_of (take i ts)) → IsPattern sig t → ArePatterns sig (trees_of (take (suc i) ts))
  patterns_more [] i t lt is before p = absurd (omega arith)
  patterns_more (u ∷ us) zero t lt is before p = (subst (λ x. IsPattern sig x) is p, tt)
  patterns_more (u ∷ us) (suc i) t lt is before p = (before.0, patterns_more us i t (omega arith) is before.1 p)

  absent_more : (ts : List Tree) (i : ℕ) (t : Tree) → i < length ts → t ≡ get_or ts i t →
      (OccursAny n (trees_of (take i ts)) → ⊥) → (Occurs n t → ⊥) → OccursAny n (trees_of (take (suc i) ts)) → ⊥
  absent_more [] i t lt is before not h = absurd (omega arith)
  absent_more (u ∷ us) zero t lt is before not (inl h) = not (subst (λ x. Occurs n x) (sym is) h)
  absent_more (u ∷ us) zero t lt is before not (inr h) = h
  absent_more (u ∷ us) (suc i) t lt is before not (inl h) = before (inl h)
  absent_more (u ∷ us) (suc i) t lt is before not (inr h) = absent_more us i t (omega arith) is
      (λ k. before (inr k)) not h

pub are_patterns_without-returns-then-not-is_pattern_without :
    goal.are_patterns_without-returns-then-not-is_pattern_without
are_patterns_without-returns-then-not-is_pattern_without t c = (
  λ h. absurd (let e : false ≡ true = h in cc),
  λ h. c.if-not-is_pattern_without.ensures.1 (pattern_here c.args.sig.now c.args.var.0 c.args.terms.now
      c.loop-term.term-index c.term-item.result c.loop-term-test.true c.term-item.is h),
)

pub are_patterns_without-loop-term-preserved : goal.are_patterns_without-loop-term-preserved
are_patterns_without-loop-term-preserved t c =
    let p = c.if-not-is_pattern_without.ensures.0 refl in
    rw add-one (
      patterns_more c.args.sig.now c.args.var.0 c.args.terms.now c.loop-term.term-index
          c.term-item.result c.loop-term-test.true c.term-item.is c.loop-term.invariant.0 p.0,
      absent_more c.args.sig.now c.args.var.0 c.args.terms.now c.loop-term.term-index c.term-item.result
          c.loop-term-test.true c.term-item.is c.loop-term.invariant.1 p.1,
    )

pub are_patterns_without-is_pattern_without-requires : goal.are_patterns_without-is_pattern_without-requires
are_patterns_without-is_pattern_without-requires t
    c = (
      omega (
        arith,
        weight-member c.args.terms.now c.loop-term.term-index c.term-item.result
            c.loop-term-test.true c.term-item.is,
      ),
      tt,
    )
