use Rattle.proof_search.specs.Chosen.{lemma_uses_by}
use Rattle.routine_proof.specs.Candidates.{Gives}
use Rattle.proof_search.specs.Taking.{SaysAt}
use Rattle.proof_search.proofs.Walking.{Passed}
use Rattle.proof_search.proofs.rewriting.first_lemma_use.Given as goal

abbrev pub invariant-loop-goal : goal.invariant-loop-goal
invariant-loop-goal g l =
    Passed (Gives (SaysAt (g.O.TermOrder.above l.order) l.at)) l.at.setting.now.goals.items
    (lemma_uses_by l.at) l.goal-index
