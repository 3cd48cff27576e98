use Rattle.proof_search.specs.Stuck.{AreStuckStarts}
use Rattle.open_goals.specs.Stops.{AreOpenStarts}
use Rattle.open_goals.proofs.stops.all_starts.Given as goal

abbrev pub invariant-loop : goal.invariant-loop
invariant-loop g l = record {
  left : AreStuckStarts (g.O.TermOrder.above l.order) l.spec l.lemmas l.goal l.starts.items;
  made : AreOpenStarts (g.O.TermOrder.above l.order) l.spec l.lemmas l.goal l.made.items;
}
