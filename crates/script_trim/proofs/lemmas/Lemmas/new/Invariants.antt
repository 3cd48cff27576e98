use Rattle.std.proofs.Common.{◌≡◌, map, take}
use Rattle.script_trim.specs.Trying.{lemma_clause}
use Rattle.script_trim.proofs.lemmas.Lemmas.new.Given as goal

abbrev pub invariant-loop-goal : goal.invariant-loop-goal
invariant-loop-goal l = l.clauses.items ≡ map lemma_clause (take l.goal-index l.spec.goals)
