use Rattle.std.proofs.Common.{◌≡◌, take, drop}
use Rattle.clause_core.specs.Clauses.{sides_of}
use Rattle.clause_places.specs.Demand.{asked_among}
use Rattle.clause_places.proofs.demand.asked_in_equations.Given as goal

abbrev pub invariant-loop-equation : goal.invariant-loop-equation
invariant-loop-equation l =
    take 1 (asked_among l.spec (sides_of l.equations))
    ≡ take 1 (asked_among l.spec (sides_of (drop l.equation-index l.equations)))
