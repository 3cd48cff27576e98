use Rattle.std.proofs.Common.{Result, Ok, Err, refl, arith}
use Rattle.std.specs.Prelude.{OnErr}
use Rattle.bank_core.proofs.Spans.{entries_kept, range_more, entries_more}
use Rattle.bank_core.proofs.entries.Entries.push.Goals as goal

on_err : {T E : Type 0} (r : Result T E) (P : Type 0) → P → OnErr r P
on_err (Ok x) P p = tt
on_err (Err e) P p = p

pub returns-in_err-push-clause-kept : goal.returns-in_err-push-clause-kept
returns-in_err-push-clause-kept g c =
    on_err c.from_residual-in_err-push.result _
    (rw (c.in_err-push.ensures.items, c.in_ok-extend_from_slice.ensures.items, ← c.self.view_is)
    (entries_kept c.self.inside.spans.items c.self.inside.args.items c.args.args.now c.self.invariant))

pub invariant_of-self-2 : goal.invariant_of-self-2
invariant_of-self-2 g c =
    rw (c.in_ok-push.ensures.items, c.in_ok-extend_from_slice.ensures.items)
    (range_more c.self.inside.spans.items c.self.inside.args.items c.args.args.now _
    c.self.invariant (omega (arith, c.len-start.ensures)) refl)

pub returns-clause-added : goal.returns-clause-added
returns-clause-added g c =
    rw (c.in_ok-push.ensures.items, c.in_ok-extend_from_slice.ensures.items, ← c.self.view_is)
    (entries_more c.self.inside.spans.items c.self.inside.args.items c.args.args.now _
    c.self.invariant (omega (arith, c.len-start.ensures)) refl)
