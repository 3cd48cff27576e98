use Rattle.std.proofs.Common.{◌≡◌, ℕ, suc}
use Rattle.std.specs.Option.{IfSome}
use Rattle.clause_core.specs.declared.steps.Place.{Place}
use Rattle.proof_search.specs.Ruling.{ruling_step}
use Rattle.routine_proof.specs.Candidates.{Gives, certain}
use Rattle.proof_search.specs.Taking.{SaysAt, place_of}
use Rattle.proof_search.proofs.Walking.{Passed}
use Rattle.proof_search.proofs.ruling.ruling_by.Given as goal

abbrev pub invariant-loop-rule : goal.invariant-loop-rule
invariant-loop-rule g l = record {
  passed :
      Passed (Gives (SaysAt (g.O.TermOrder.above l.order) l.at)) l.from
      (λ (k : ℕ). certain (ruling_step l.entry (place_of l.at l.index) (suc k))) l.rule-index;
  known : IfSome l.known (λ (p : Place). p ≡ place_of l.at l.index);
}
