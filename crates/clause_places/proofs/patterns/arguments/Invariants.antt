use Rattle.std.proofs.Common.{◌≡◌, take}
use Rattle.term_core.specs.References.{terms_of}
use Rattle.clause_places.specs.Demand.{arguments_at}
use Rattle.clause_places.proofs.patterns.arguments.Given as goal

abbrev pub invariant-loop-pattern : goal.invariant-loop-pattern
invariant-loop-pattern l =
    l.made ≡ arguments_at l.index (terms_of (take l.pattern-index l.pattern-items))
