use Rattle.std.proofs.Common.{◌≡◌, map}
use Rattle.clause_core.specs.declared.clauses.Clause.{Clause}
use Rattle.clause_core.specs.declared.answers.Child.{Child}
use Rattle.inference_rules.proofs.making.with_relation.Given as goal

abbrev pub invariant-loop-clause : goal.invariant-loop-clause
invariant-loop-clause l = l.made.items ≡ map {A = Clause} {B = Child}
    (λ d. record { clause = d; relation = l.relation }) l.yielded
