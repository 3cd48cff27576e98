use Rattle.std.proofs.Common.{◌≡◌, ℕ, zero, suc, ◌<◌, List, [], ◌∷◌, true, false, inl, inr, refl, sym, subst, length}
use Rattle.std.proofs.Common.{get_or, take, add-one, arith}
use Rattle.term_core.specs.Tree.{Tree, trees_of}
use Rattle.term_core.proofs.Trees.{weight-member}
use Rattle.spec_core.specs.Sig.{Sig}
use Rattle.clause_core.specs.Clashes.{StandsUnder, StandsUnderAny}
use Rattle.inference_rules.proofs.closing.+under.Goals as goal

module _ (sig : Sig) (n : ℕ) where
  stands_here : (ts : List Tree) (i : ℕ) (t : Tree) → i < length ts → t ≡ get_or ts i t → StandsUnder sig n t →
      StandsUnderAny sig n (trees_of ts)
  stands_here [] i t lt is h = absurd (omega arith)
  stands_here (u ∷ us) zero t lt is h = inl (subst (λ x. StandsUnder sig n x) is h)
  stands_here (u ∷ us) (suc i) t lt is h = inr (stands_here us i t (omega arith) is h)

  in_none : (ts : List Tree) (i : ℕ) (t : Tree) → i < length ts → t ≡ get_or ts i t →
      (StandsUnderAny sig n (trees_of (take i ts)) → ⊥) → (StandsUnder sig n t → ⊥) →
      StandsUnderAny sig n (trees_of (take (suc i) ts)) → ⊥
  in_none [] i t lt is before not h = absurd (omega arith)
  in_none (u ∷ us) zero t lt is before not (inl h) = not (subst (λ x. StandsUnder sig n x) (sym is) h)
  in_none (u ∷ us) zero t lt is before not (inr h) = h
  in_none (u ∷ us) (suc i) t lt is before not (inl h) = before (inl h)
  in_none (u ∷ us) (suc i) t lt is before not (inr h) = in_none us i t (omega arith) is (λ k. before (inr k)) not h

pub stands_under_any-returns-then-stands_under : goal.stands_under_any-returns-then-stands_under
stands_under_any-returns-then-stands_under t c = (
  λ h. stands_here c.args.sig.now c.args.var.0 c.args.terms.now
      c.loop-term.term-index c.term-item.result c.loop-term-test.true c.term-item.is
      (c.if-stands_under.ensures.0 refl),
  λ h. refl,
)

pub stands_under_any-loop-term-preserved : goal.stands_under_any-loop-term-preserved
stands_under_any-loop-term-preserved t c =
    rw add-one (in_none c.args.sig.now c.args.var.0 c.args.terms.now c.loop-term.term-index c.term-item.result
    c.loop-term-test.true c.term-item.is c.loop-term.invariant
    (λ h. let e : false ≡ true = c.if-stands_under.ensures.1 h in cc))

pub stands_under_any-stands_under-requires : goal.stands_under_any-stands_under-requires
stands_under_any-stands_under-requires t
    c = (
      omega (
        arith,
        weight-member c.args.terms.now c.loop-term.term-index c.term-item.result
            c.loop-term-test.true c.term-item.is,
      ),
      tt,
    )
