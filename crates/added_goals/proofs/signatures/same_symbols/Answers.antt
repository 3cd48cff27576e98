use Rattle.added_goals.proofs.Entries.{take_next}
use Rattle.std.proofs.Common.{add-one}
use Rattle.added_goals.proofs.signatures.same_symbols.Goals as goal

pub loop-number-preserved : goal.loop-number-preserved
loop-number-preserved c =
    rw add-one (take_next c.args.one.now.table c.args.other.now.table c.loop-number.number c.loop-number.invariant
    (c.same_symbol.ensures.0 c.if-not-same_symbol.false))
