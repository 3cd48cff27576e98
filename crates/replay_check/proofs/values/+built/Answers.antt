use Rattle.std.proofs.Common.{◌≡◌, true, false, refl, add-one, arith}
use Rattle.term_core.proofs.Trees.{weight-member}
use Rattle.replay_check.proofs.NamedValues.{built_here, built_more}
use Rattle.replay_check.proofs.values.+built.Goals as goal

pub are_built-returns-then-not-is_built : goal.are_built-returns-then-not-is_built
are_built-returns-then-not-is_built t c = (
  λ h. absurd (let e : false ≡ true = h in cc),
  λ h. c.if-not-is_built.ensures.1 (built_here c.args.sig.now c.args.terms.now c.loop-term.term-index
      c.term-item.result c.loop-term-test.true c.term-item.is h),
)

pub are_built-loop-term-preserved : goal.are_built-loop-term-preserved
are_built-loop-term-preserved t c =
    rw add-one (built_more c.args.sig.now c.args.terms.now c.loop-term.term-index c.term-item.result
    c.loop-term-test.true c.term-item.is c.loop-term.invariant (c.if-not-is_built.ensures.0 refl))

pub are_built-is_built-requires : goal.are_built-is_built-requires
are_built-is_built-requires t
    c = (
      omega (
        arith,
        weight-member c.args.terms.now c.loop-term.term-index c.term-item.result
            c.loop-term-test.true c.term-item.is,
      ),
      tt,
    )
