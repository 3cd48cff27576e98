use Rattle.std.proofs.Common.{◌≤◌, length}
use Rattle.proof_search.specs.Starting.{start_of}
use Rattle.proof_search.proofs.Walks.{IsWalk}
use Rattle.proof_search.proofs.passing.walk.Given as goal

abbrev pub invariant-loop-turns : goal.invariant-loop-turns
invariant-loop-turns g l = record {
  walk : IsWalk (g.O.TermOrder.above l.order) l.setting.spec.now l.setting.lemmas.now
      (start_of l.start) l.fn.clause l.building l.stuck.items;
  few : length l.building.steps.items ≤ l.turns;
}
