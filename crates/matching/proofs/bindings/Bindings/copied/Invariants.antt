-- The entries so far.
use Rattle.std.proofs.Common.{◌≡◌, take}
use Rattle.matching.specs.Bindings.{entries_of}
use Rattle.matching.proofs.bindings.Bindings.copied.Given as goal

abbrev pub invariant-loop-entry : goal.invariant-loop-entry
invariant-loop-entry l = l.terms.items ≡ entries_of (take l.entry-index l.entry-items)
