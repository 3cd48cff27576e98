-- Whether a variable is in terms, one term more at a time.
use Rattle.std.proofs.Common.{◌≡◌, ℕ, zero, suc, ◌<◌, List, [], ◌∷◌, true, false, inl, inr, refl, sym, subst, length}
use Rattle.std.proofs.Common.{get_or, take, add-one, arith}
use Rattle.term_core.specs.Tree.{Tree, trees_of}
use Rattle.term_core.specs.Variables.{Occurs, OccursAny}
use Rattle.term_core.proofs.Bounds.{occurs_below}
use Rattle.term_core.proofs.Trees.{weight-member}
use Rattle.term_core.proofs.occurring.+occurs.Goals as goal

module _ (n : ℕ) where
  occurs_here :
      (ts : List Tree) (i : ℕ) (t : Tree) → i < length ts → t ≡ get_or ts i t → Occurs n t →
      OccursAny n (trees_of ts)
  occurs_here [] i t lt is h = absurd (omega arith)
  occurs_here (u ∷ us) zero t lt is h = inl (subst (λ x. Occurs n x) is h)
  occurs_here (u ∷ us) (suc i) t lt is h = inr (occurs_here us i t (omega arith) is h)

  absent_more :
      (ts : List Tree) (i : ℕ) (t : Tree) → i < length ts → t ≡ get_or ts i t →
      (OccursAny n (trees_of (take i ts)) → ⊥) → (Occurs n t → ⊥) →
      OccursAny n (trees_of (take (suc i) ts)) → ⊥
  absent_more [] i t lt is before not h = absurd (omega arith)
  absent_more (u ∷ us) zero t lt is before not (inl h) = not (subst (λ x. Occurs n x) (sym is) h)
  absent_more (u ∷ us) zero t lt is before not (inr h) = h
  absent_more (u ∷ us) (suc i) t lt is before not (inl h) = before (inl h)
  absent_more (u ∷ us) (suc i) t lt is before not (inr h) =
      absent_more us i t (omega arith) is (λ k. before (inr k)) not h

pub occurs_in_any-occurs-requires : goal.occurs_in_any-occurs-requires
occurs_in_any-occurs-requires t c =
    let index = c.loop-term.term-index in
    let term = c.term-item.result in
    let lighter = weight-member c.args.terms.now index term c.loop-term-test.true c.term-item.is in
    (omega (arith, lighter), tt)

pub occurs_in_any-returns-then-occurs : goal.occurs_in_any-returns-then-occurs
occurs_in_any-returns-then-occurs t c =
    let here = occurs_here c.args.number c.args.terms.now c.loop-term.term-index in
    let found = c.if-occurs.ensures.0 refl in
    (λ _. here c.term-item.result c.loop-term-test.true c.term-item.is found, λ _. refl)

pub occurs_in_any-loop-term-preserved : goal.occurs_in_any-loop-term-preserved
occurs_in_any-loop-term-preserved t c =
    rw add-one (
    absent_more c.args.number c.args.terms.now c.loop-term.term-index c.term-item.result
    c.loop-term-test.true c.term-item.is c.loop-term.invariant
    (λ o. let q : false ≡ true = c.if-occurs.ensures.1 o in cc))

pub occurs-returns-then-number-bound : goal.occurs-returns-then-number-bound
occurs-returns-then-number-bound t c = (
  λ yes. absurd (let q : false ≡ true = yes in cc),
  λ o. absurd (omega (arith, c.if-number-bound.true, c.bound.ensures, occurs_below c.args.number c.args.term.now o)),
)
