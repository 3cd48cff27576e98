use Rattle.std.proofs.Common.{◌≡◌, refl, arith}
use Rattle.term_core.specs.References.{terms_of}
use Rattle.term_order.specs.Operands.{meaning}
use Rattle.kbo_order.specs.Weights.{symbol_weight}
use Rattle.kbo_order.proofs.EachVariable.{refuted, up-to, in-all}
use Rattle.kbo_order.proofs.compare.above.Goals as goal

pub returns-then-not-above_for : goal.returns-then-not-above_for
returns-then-not-above_for c = refuted 0 c.if-not-above_for.true c.above_for.ensures

pub returns-then-not-above_for-2 : goal.returns-then-not-above_for-2
returns-then-not-above_for-2 c = refuted c.in-Some.x.0 c.if-not-above_for-2.true c.above_for-in-Some.ensures

pub loop-x-preserved : goal.loop-x-preserved
loop-x-preserved c =
    let values = terms_of c.args.list.now in
    let before = c.loop-x.invariant in
    let next : c.from-from.result ≡ c.in-Some.x.0 = c.from-from.ensures in (
      omega arith,
      before.1,
      λ y l.
          up-to (symbol_weight c.args.weights.now) (meaning values c.args.t) (meaning values c.args.s)
          c.loop-x.from before.0 before.2 c.in-Some.x.0 c.in-Some.ensures.2
          (c.above_for-in-Some.ensures.0 c.if-not-above_for-2.false).1 y (omega (arith, l, next)),
    )

pub returns : goal.returns
returns c =
    let values = terms_of c.args.list.now in
    let before = c.loop-x.invariant in (
      λ h. (
        before.1,
        in-all (symbol_weight c.args.weights.now) (meaning values c.args.t) (meaning values c.args.s)
            c.loop-x.from before.0 before.2 c.in_default.ensures,
      ),
      λ p. refl,
    )
