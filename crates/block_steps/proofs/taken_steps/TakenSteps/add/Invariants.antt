use Rattle.std.proofs.Common.{◌≡◌}
use Rattle.inference_rules.specs.Answers.{clauses_of}
use Rattle.block_steps.proofs.taken_steps.TakenSteps.add.Given as goal

abbrev pub invariant-loop-clause : goal.invariant-loop-clause
invariant-loop-clause l = clauses_of l.nodes.items ≡ l.yielded
