use Rattle.std.proofs.Common.{◌≡◌, map}
use Rattle.proof_search.specs.declared.stuck.Stuck.{Stuck}
use Rattle.proof_search.proofs.stuck.clauses.Given as goal

abbrev pub invariant-loop-node : goal.invariant-loop-node
invariant-loop-node l = l.made.items ≡ map (λ (s : Stuck). s.clause) l.yielded
