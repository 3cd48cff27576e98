use Rattle.std.proofs.Common.{refl, subst, arith}
use Rattle.term_core.proofs.Trees.{weight-member}
use Rattle.inference_rules.specs.Parts.{IsPart}
use Rattle.inference_rules.proofs.Parts.{part_itself, part_at, none_next}
use Rattle.inference_rules.proofs.generalizing.+is_part.Goals as goal

pub is_part-returns-then-same : goal.is_part-returns-then-same
is_part-returns-then-same t c = (
  λ true. subst (λ w. IsPart c.args.term.now w) (c.same.ensures.0 c.if-same.true)
      (part_itself c.args.term.now),
  λ p. refl,
)

pub is_part_of_any-is_part-requires : goal.is_part_of_any-is_part-requires
is_part_of_any-is_part-requires t
    c = (
      omega (
        arith,
        weight-member c.args.terms.now c.loop-whole.whole-index c.whole-item.result
            c.loop-whole-test.true c.whole-item.is,
      ),
      tt,
    )

pub is_part_of_any-returns-then-is_part : goal.is_part_of_any-returns-then-is_part
is_part_of_any-returns-then-is_part t c = (
  λ true. part_at c.args.term.now c.args.terms.now c.loop-whole.whole-index c.whole-item.result
      c.loop-whole-test.true c.whole-item.is (c.is_part.ensures.0 c.if-is_part.true),
  λ p. refl,
)

pub is_part_of_any-loop-whole-preserved : goal.is_part_of_any-loop-whole-preserved
is_part_of_any-loop-whole-preserved t c =
    none_next c.args.term.now c.args.terms.now c.loop-whole.whole-index c.whole-item.result
    c.loop-whole-test.true c.whole-item.is c.loop-whole.invariant
    (λ p. let yes = c.is_part.ensures.1 p in let no = c.if-is_part.false in cc)
