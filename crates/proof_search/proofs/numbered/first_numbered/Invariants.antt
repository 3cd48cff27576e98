use Rattle.std.specs.List.{range_with_len}
use Rattle.std.proofs.Common.{ℕ, length}
use Rattle.routine_proof.specs.Candidates.{Gives, certain}
use Rattle.proof_search.specs.Taking.{SaysAt}
use Rattle.proof_search.specs.Numbers.{step_of, equations_named}
use Rattle.proof_search.proofs.Walking.{Passed}
use Rattle.proof_search.proofs.numbered.first_numbered.Given as goal

abbrev pub invariant-loop-passed : goal.invariant-loop-passed
invariant-loop-passed g l =
    Passed (Gives (SaysAt (g.O.TermOrder.above l.order) l.at))
    (range_with_len 1 (length (equations_named l.entry l.at.here.now)))
    (λ (k : ℕ). certain (step_of l.entry k)) l.passed
