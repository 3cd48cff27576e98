use Rattle.std.proofs.Common.{subst, sym}
use Rattle.spec_order.proofs.Tests.{IsSound, IsComplete}
use Rattle.spec_order.proofs.either.AnyOrderTermOrder.greater.Goals as goal

pub returns-in-Path-clause-sound : goal.returns-in-Path-clause-sound
returns-in-Path-clause-sound c =
    let sound = IsSound c.args.t.now c.args.s.now c.greater.result in
    subst sound (sym c.in-Path.is) c.greater.ensures.sound

pub returns-in-Path-clause-complete : goal.returns-in-Path-clause-complete
returns-in-Path-clause-complete c =
    let complete = IsComplete c.args.t.now c.args.s.now c.greater.result in
    subst complete (sym c.in-Path.is) c.greater.ensures.complete

pub returns-in-Weights-clause-sound : goal.returns-in-Weights-clause-sound
returns-in-Weights-clause-sound c =
    let sound = IsSound c.args.t.now c.args.s.now c.greater-in-Weights.result in
    subst sound (sym c.in-Weights.is) c.greater-in-Weights.ensures.sound

pub returns-in-Weights-clause-complete : goal.returns-in-Weights-clause-complete
returns-in-Weights-clause-complete c =
    let complete = IsComplete c.args.t.now c.args.s.now c.greater-in-Weights.result in
    subst complete (sym c.in-Weights.is) c.greater-in-Weights.ensures.complete
