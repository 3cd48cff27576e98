use Rattle.std.proofs.Common.{◌≢◌, refl, arith, length}
use Rattle.term_core.specs.Tree.{var}
use Rattle.spec_core.specs.Declarations.{bool_sort}
use Rattle.inference_rules.proofs.SortedTerms.{all_sorted, other_lengths, unsorted_place}
use Rattle.inference_rules.proofs.terms.have_sorts.Goals as goal

pub returns-then-terms-sorts : goal.returns-then-terms-sorts
returns-then-terms-sorts c =
    let ne : length c.args.terms.now ≢ length c.args.sorts.now = omega arith in
    other_lengths c.args.sig.now c.args.ctx.now c.args.terms.now c.args.sorts.now ne

pub returns-then-not-has_sort : goal.returns-then-not-has_sort
returns-then-not-has_sort c =
    unsorted_place c.args.sig.now c.args.ctx.now c.args.terms.now c.args.sorts.now c.loop-place.place
    c.index-terms-place.result bool_sort c.has_sort.result
    c.loop-place-test.true c.index-terms-place.is c.if-not-has_sort.true c.has_sort.ensures.1

pub returns : goal.returns
returns c = (
  λ h.
      all_sorted c.args.sig.now c.args.ctx.now c.args.terms.now c.args.sorts.now (var 0) bool_sort (omega arith)
      (λ k lt. c.loop-place.invariant k (omega arith)),
  λ p. refl,
)
