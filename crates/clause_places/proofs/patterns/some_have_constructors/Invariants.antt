use Rattle.std.proofs.Common.{◌≡◌, false, [], take}
use Rattle.term_core.specs.References.{terms_of}
use Rattle.clause_places.specs.Demand.{some_look_at}
use Rattle.clause_places.proofs.patterns.some_have_constructors.Given as goal

abbrev pub invariant-loop-pattern : goal.invariant-loop-pattern
invariant-loop-pattern l =
    some_look_at l.sig (terms_of (take l.pattern-index l.pattern-items)) [] ≡ false
