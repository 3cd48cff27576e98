use Rattle.std.proofs.Common.{◌≡◌, true, false}
use Rattle.bank_core.specs.Hashing.{hash_by}
use Rattle.bank_core.proofs.Hashed.{same_entry, sought_begins, sought_next}
use Rattle.bank_core.proofs.table.Table.find.Goals as goal
use Rattle.bank_core.proofs.table.Table.find.Goals.{else-same-via-then-same+else-same_parts}
use Rattle.bank_core.proofs.table.Table.find.Goals.{else-same-via-else-same}

pub loop-at-init : goal.loop-at-init
loop-at-init g c =
    sought_begins (hash_by g.H.Part.stirred g.A.Part.stirred) c.self.inside.entries c.self.inside.links
    c.args.head c.args.args.now c.args.hash c.self.invariant.1 c.requires c.last-at.result c.last-at.ensures

pub loop-at-preserved : goal.loop-at-preserved
loop-at-preserved g c =
    sought_next (hash_by g.H.Part.stirred g.A.Part.stirred) c.self.inside.entries c.self.inside.links
    c.args.head c.args.args.now c.args.hash c.self.invariant.1 c.requires c.loop-at.at
    c.before-at.result c.loop-at.invariant c.loop-at-test.true
    (λ e.
    let s = same_entry c.self.inside.entries _ _ _ _ _ c.at-other.ensures e in
    elim c.else-same.branch [
      | else-same-via-then-same+else-same_parts w ↦
          (let t : w.same_parts.result ≡ true = w.same_parts.ensures.1 s.1 in
          let f : w.same_parts.result ≡ false = w.if-same_parts.false in
          cc)
      | else-same-via-else-same w ↦
          (let t : c.same.result ≡ true = c.same.ensures.1 s.0 in
          let f : c.same.result ≡ false = w.if-same.false in
          cc)
    ])
    c.before-at.ensures
