use Rattle.std.proofs.Common.{arith}
use Rattle.bank_core.specs.Entries.{entry}
use Rattle.bank_core.specs.Hashing.{hash_by}
use Rattle.bank_core.proofs.Ends.{get_last}
use Rattle.bank_core.proofs.Hashed.{put_more}
use Rattle.bank_core.proofs.table.Table.put.Goals as goal

pub invariant_of-self-in-Ok : goal.invariant_of-self-in-Ok
invariant_of-self-in-Ok g c =
    put_more (hash_by g.H.Part.stirred g.A.Part.stirred) c.self.inside.entries c.push.new.self
    c.args.self.now c.self.inside.links c.add.new.self c.args.head c.args.args.now c.args.hash
    c.len-place.result c.self.view_is c.self.invariant c.len-place.ensures
    (omega (arith, c.if-place-ge4294967295.false)) c.requires.hash c.requires.nowhere
    c.in_ok-push.ensures.added c.in-Ok.ensures.added

pub returns-in-Ok-clause-found : goal.returns-in-Ok-clause-found
returns-in-Ok-clause-found g c =
    rw (c.in_ok-push.ensures.added, c.len-place.ensures)
    (get_last c.self.inside.entries (entry c.args.head c.args.args.now))
