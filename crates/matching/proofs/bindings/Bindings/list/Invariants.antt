-- The entries so far that are there.
use Rattle.std.proofs.Common.{◌≡◌, take}
use Rattle.term_core.specs.References.{terms_of}
use Rattle.matching.specs.Bindings.{entries_of, present}
use Rattle.matching.proofs.bindings.Bindings.list.Given as goal

abbrev pub invariant-loop-entry : goal.invariant-loop-entry
invariant-loop-entry l =
    terms_of l.found.items ≡ present (entries_of (take l.entry-index l.entry-items))
