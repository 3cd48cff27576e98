-- The clause is what is made of another one, so it is tidied.
use Rattle.std.proofs.Common.{sym, subst}
use Rattle.clause_core.specs.declared.clauses.Clause.{Clause}
use Rattle.clause_core.specs.Tidied.{IsTidied}
use Rattle.term_classes.proofs.candidates.clause_of.Goals as goal

pub returns-clause-tidied : goal.returns-clause-tidied
returns-clause-tidied c =
    subst (λ (z : Clause). IsTidied z) (sym c.in_ok-made.ensures) (c.tidying_laws.ensures.is_tidied _)
