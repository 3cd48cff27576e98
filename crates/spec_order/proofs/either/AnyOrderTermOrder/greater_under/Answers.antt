use Rattle.std.proofs.Common.{subst, sym}
use Rattle.term_core.specs.References.{terms_of}
use Rattle.term_core.specs.Tree.{instance}
use Rattle.spec_order.proofs.Tests.{IsSound, IsComplete}
use Rattle.spec_order.proofs.either.AnyOrderTermOrder.greater_under.Goals as goal

pub returns-in-Path-clause-sound : goal.returns-in-Path-clause-sound
returns-in-Path-clause-sound c =
    let by = instance (terms_of c.args.list.now) in
    let sound = IsSound (by c.args.t.now) (by c.args.s.now) c.greater_under.result in
    subst sound (sym c.in-Path.is) c.greater_under.ensures.sound

pub returns-in-Path-clause-complete : goal.returns-in-Path-clause-complete
returns-in-Path-clause-complete c =
    let by = instance (terms_of c.args.list.now) in
    let complete = IsComplete (by c.args.t.now) (by c.args.s.now) c.greater_under.result in
    subst complete (sym c.in-Path.is) c.greater_under.ensures.complete

pub returns-in-Weights-clause-sound : goal.returns-in-Weights-clause-sound
returns-in-Weights-clause-sound c =
    let by = instance (terms_of c.args.list.now) in
    let sound = IsSound (by c.args.t.now) (by c.args.s.now) c.greater_under-in-Weights.result in
    subst sound (sym c.in-Weights.is) c.greater_under-in-Weights.ensures.sound

pub returns-in-Weights-clause-complete : goal.returns-in-Weights-clause-complete
returns-in-Weights-clause-complete c =
    let by = instance (terms_of c.args.list.now) in
    let complete = IsComplete (by c.args.t.now) (by c.args.s.now) c.greater_under-in-Weights.result in
    subst complete (sym c.in-Weights.is) c.greater_under-in-Weights.ensures.complete
