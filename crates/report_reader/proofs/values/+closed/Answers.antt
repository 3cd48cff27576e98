use Rattle.std.proofs.Common.{◌≡◌, ℕ, zero, suc, ◌<◌, List, [], ◌∷◌, true, false, refl, sym, subst, length, get_or}
use Rattle.std.proofs.Common.{take, add-one, arith}
use Rattle.term_core.specs.Tree.{Tree, trees_of}
use Rattle.term_core.proofs.Trees.{weight-member}
use Rattle.spec_core.specs.Sig.{Sig}
use Rattle.proof_script.specs.Reports.{AllAreClosed, IsClosed}
use Rattle.report_reader.proofs.values.+closed.Goals as goal

module _ (sig : Sig) where
  closed_here : (ts : List Tree) (i : ℕ) (t : Tree) → i < length ts → t ≡ get_or ts i t →
      AllAreClosed sig (trees_of ts) → IsClosed sig t
  closed_here [] i t lt is h = absurd (omega (arith, lt))
  closed_here (u ∷ us) zero t lt is h = subst (λ x. IsClosed sig x) (sym is) h.0
  closed_here (u ∷ us) (suc i) t lt is h = closed_here us i t (omega (arith, lt)) is h.1

  closed_more : (ts : List Tree) (i : ℕ) (t : Tree) → i < length ts → t ≡ get_or ts i t →
      AllAreClosed sig (trees_of (take i ts)) → IsClosed sig t → AllAreClosed sig (trees_of (take (suc i) ts))
  closed_more [] i t lt is before p = absurd (omega (arith, lt))
  closed_more (u ∷ us) zero t lt is before p = (subst (λ x. IsClosed sig x) is p, tt)
  closed_more (u ∷ us) (suc i) t lt is before p = (before.0, closed_more us i t (omega (arith, lt)) is before.1 p)

pub are_closed-returns-then-not-is_closed : goal.are_closed-returns-then-not-is_closed
are_closed-returns-then-not-is_closed t c = (
  λ h. absurd (let e : false ≡ true = h in cc),
  λ h. c.if-not-is_closed.ensures.1 (closed_here c.args.sig.now c.args.terms.now c.loop-term.term-index
      c.term-item.result c.loop-term-test.true c.term-item.is h),
)

pub are_closed-loop-term-preserved : goal.are_closed-loop-term-preserved
are_closed-loop-term-preserved t c =
    rw add-one (closed_more c.args.sig.now c.args.terms.now c.loop-term.term-index c.term-item.result
    c.loop-term-test.true c.term-item.is c.loop-term.invariant (c.if-not-is_closed.ensures.0 refl))

pub are_closed-is_closed-requires : goal.are_closed-is_closed-requires
are_closed-is_closed-requires t
    c = (
      omega (
        arith,
        weight-member c.args.terms.now c.loop-term.term-index c.term-item.result
            c.loop-term-test.true c.term-item.is,
      ),
      tt,
    )
