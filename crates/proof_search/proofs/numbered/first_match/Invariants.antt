use Rattle.std.specs.List.{range_with_len}
use Rattle.std.proofs.Common.{ℕ, length}
use Rattle.routine_proof.specs.Candidates.{Gives}
use Rattle.proof_search.specs.declared.numbered.Numbered.TheVariants.{Match}
use Rattle.proof_search.specs.Taking.{SaysAt}
use Rattle.proof_search.specs.Numbers.{numbered}
use Rattle.proof_search.proofs.Walking.{Passed}
use Rattle.proof_search.proofs.numbered.first_match.Given as goal

abbrev pub invariant-loop-passed : goal.invariant-loop-passed
invariant-loop-passed g l =
    Passed (Gives (SaysAt (g.O.TermOrder.above l.order) l.at))
    (range_with_len 1 (length l.at.here.now.conclusions))
    (λ (k : ℕ). numbered (Match k) l.at.here.now) l.passed
