use Rattle.inference_rules.specs.Answers.{clauses_of}
use Rattle.inference_rules.specs.Nodes.{AreNodes}
use Rattle.step_cases.proofs.nodes.nodes_of.Given as goal

abbrev pub invariant-loop : goal.invariant-loop
invariant-loop l = AreNodes l.spec.sig (clauses_of l.nodes.items)
