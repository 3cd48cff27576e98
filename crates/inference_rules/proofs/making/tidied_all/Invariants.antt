use Rattle.std.specs.List.{AllZip}
use Rattle.std.proofs.Common.{map}
use Rattle.clause_core.specs.declared.clauses.Clause.{Clause}
use Rattle.clause_core.specs.Rows.{child}
use Rattle.clause_core.specs.Says.{IsChild}
use Rattle.inference_rules.proofs.making.tidied_all.Given as goal

abbrev pub invariant-loop-clause : goal.invariant-loop-clause
invariant-loop-clause l =
    (c : Clause) → AllZip (IsChild (λ t s. ⊥) c) (map (child l.relation) l.yielded) l.made.items
