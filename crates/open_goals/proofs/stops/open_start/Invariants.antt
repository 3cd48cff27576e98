use Rattle.std.specs.List.{AllByRecursion}
use Rattle.clause_core.specs.Tidied.{goal_clause}
use Rattle.proof_search.specs.Stuck.{IsStuckFrom, start_at}
use Rattle.open_goals.specs.Stops.{IsStopFrom}
use Rattle.open_goals.proofs.stops.open_start.Given as goal

abbrev pub invariant-loop : goal.invariant-loop
invariant-loop g l =
    let above = g.O.TermOrder.above l.order in
    let start = start_at l.split in
    record {
      left : AllByRecursion (IsStuckFrom above l.spec l.lemmas start (goal_clause l.goal)) l.stuck.items;
      made : AllByRecursion (IsStopFrom above l.spec l.lemmas l.goal start) l.stops.items;
    }
