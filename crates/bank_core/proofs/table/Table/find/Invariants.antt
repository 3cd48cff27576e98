use Rattle.bank_core.specs.Entries.{entry}
use Rattle.bank_core.proofs.Hashed.{IsSought}
use Rattle.bank_core.proofs.table.Table.find.Given as goal

abbrev pub invariant-loop-at : goal.invariant-loop-at
invariant-loop-at g l =
    IsSought l.self-inside.entries (entry l.head l.args) l.self-inside.links l.hash l.at

abbrev pub decreases-loop-at : goal.decreases-loop-at
decreases-loop-at g l = l.at
