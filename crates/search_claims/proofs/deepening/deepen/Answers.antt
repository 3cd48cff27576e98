use Rattle.std.proofs.Common.{inl, inr, sym, subst, arith}
use Rattle.command_line.specs.declared.bounds.SearchBounds.{SearchBounds}
use Rattle.term_core.proofs.Numbers.{below_or_last}
use Rattle.search_claims.specs.Deepening.{FindsNone}
use Rattle.search_claims.proofs.FoundOrNot.{left_open, refuted_so}
use Rattle.search_claims.proofs.deepening.deepen.Goals as goal

pub loop-depth-init : goal.loop-depth-init
loop-depth-init c =
    record {
      first = omega arith;
      last = omega arith;
      none = λ depth above below. absurd (omega (arith, above, below));
    }

pub returns-in-Refuted : goal.returns-in-Refuted
returns-in-Refuted c =
    let depth = c.loop-depth.depth in
    let bounds : SearchBounds =
    record { depth = depth; tries = c.args.bounds.tries; steps = c.args.bounds.steps } in (
      c.loop-depth.invariant.first,
      omega (arith, c.loop-depth-test.true),
      (
        c.in-Refuted.index,
        refuted_so bounds c.args.spec.now c.args.goal.now c.in_ok-outcome.field-0 c.in-Refuted.index
            c.in-Refuted.values c.in_ok-outcome.ensures c.in-Refuted.is,
      ),
      c.loop-depth.invariant.none,
    )

pub loop-depth-preserved : goal.loop-depth-preserved
loop-depth-preserved c =
    let last = c.loop-depth.depth in
    let bounds : SearchBounds =
    record { depth = last; tries = c.args.bounds.tries; steps = c.args.bounds.steps } in
    let here : FindsNone c.args.bounds c.args.spec.now c.args.goal.now last =
    left_open bounds c.args.spec.now c.args.goal.now c.in_ok-outcome.field-0 c.in_ok-outcome.ensures
    c.in_default.not-Refuted in
    record {
      first = omega (arith, c.loop-depth.invariant.first);
      last = omega (arith, c.loop-depth-test.true);
      none =
          λ depth above below. elim (below_or_last depth last below) [
            | inl less ↦ c.loop-depth.invariant.none depth above less
            | inr same ↦ subst (λ d. FindsNone c.args.bounds c.args.spec.now c.args.goal.now d) (sym same) here
          ];
    }

pub returns : goal.returns
returns c =
    λ depth above below. c.loop-depth.invariant.none depth above
    (omega (arith, below, c.loop-depth-test.false))
