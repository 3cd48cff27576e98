use Rattle.std.proofs.Common.{◌≡◌, map}
use Rattle.clause_core.specs.declared.answers.Child.{Child}
use Rattle.inference_rules.specs.Answers.{clauses_of}
use Rattle.choice_tree.proofs.tree.nodes_of.Given as goal

abbrev pub invariant-loop-child : goal.invariant-loop-child
invariant-loop-child l = clauses_of l.nodes.items ≡ map (λ (d : Child). d.clause) l.yielded
