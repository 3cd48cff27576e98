use Rattle.std.proofs.Common.{◌≡◌}
use Rattle.clause_core.specs.declared.answers.Reference.{Reference}
use Rattle.clause_core.specs.declared.clauses.Relation.TheVariants.{Neither}
use Rattle.session_core.proofs.Neithers.{NoneBefore}
use Rattle.session_core.proofs.taking.has_neither_reference.Given as goal

abbrev pub invariant-loop-reference : goal.invariant-loop-reference
invariant-loop-reference l = NoneBefore (λ (x : Reference). x.relation ≡ Neither) l.reference-items l.reference-index
