use Rattle.std.proofs.Common.{◌≢◌, List, subst}
use Rattle.std.proofs.lemmas.List.{take_all}
use Rattle.std.specs.List.{AllByRecursion}
use Rattle.command_line.proofs.Entries.{Item, named_entry, other_name}
use Rattle.command_line.proofs.table.entry_named.Goals as goal

pub returns-then-eq : goal.returns-then-eq
returns-then-eq c =
    named_entry c.args.name.now c.args.entries.now c.loop-entry.entry-index _
    c.loop-entry-test.true c.requires c.if-eq.ensures

pub loop-entry-preserved : goal.loop-entry-preserved
loop-entry-preserved c =
    other_name c.args.name.now c.args.entries.now c.loop-entry.entry-index _
    c.loop-entry-test.true c.loop-entry.invariant c.if-eq.ensures

pub returns : goal.returns
returns c =
    subst (λ (xs : List Item). AllByRecursion (λ (e : Item). c.args.name.now ≢ e.0.now) xs)
    (take_all c.loop-entry.entry-index c.args.entries.now c.loop-entry-test.false)
    c.loop-entry.invariant
