use Rattle.std.proofs.Common.{◌≡◌}
use Rattle.clause_core.specs.declared.answers.Child.{Child}
use Rattle.clause_core.specs.declared.clauses.Relation.TheVariants.{Neither}
use Rattle.session_core.proofs.Neithers.{NoneBefore}
use Rattle.session_core.proofs.taking.has_neither_child.Given as goal

abbrev pub invariant-loop-child : goal.invariant-loop-child
invariant-loop-child l = NoneBefore (λ (x : Child). x.relation ≡ Neither) l.child-items l.child-index
