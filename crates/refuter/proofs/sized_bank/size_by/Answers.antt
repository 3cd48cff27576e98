use Rattle.std.proofs.Common.{arith, refl, take, get_or}
use Rattle.std.proofs.lemmas.List.{take_all}
use Rattle.std.proofs.lemmas.Option.{slice_get-get_or}
use Rattle.refuter.proofs.Sizing.{up_to_none, up_to_more, up_to_all}
use Rattle.refuter.proofs.sized_bank.size_by.Goals as goal

pub loop-arg-init : goal.loop-arg-init
loop-arg-init c = up_to_none c.args.sizes.now _ 1 refl refl

pub loop-arg-preserved : goal.loop-arg-preserved
loop-arg-preserved c =
    let i = c.loop-arg.arg-index in
    up_to_more c.args.sizes.now c.args.args.now i (get_or c.args.args.now i 0) c.loop-arg.size
    c.known_size-known.result c.min-size.result (slice_get-get_or c.args.args.now i 0 c.loop-arg-test.true)
    c.loop-arg.invariant (c.known_size-known.ensures (omega (arith, c.if-known-eq0.false)))
    (omega (arith, c.if-known-eq0.false)) (omega (arith, c.min-size.ensures, c.saturating_add.ensures))

pub returns : goal.returns
returns c = up_to_all c.args.sizes.now c.args.args.now (take c.loop-arg.arg-index c.args.args.now)
    c.loop-arg.size (take_all c.loop-arg.arg-index c.args.args.now (omega (arith, c.loop-arg-test.false)))
    c.loop-arg.invariant
