-- What is known over a specification.
use Rattle.std.specs.Prelude.{List, refl}
use Rattle.std.specs.Coded.{Coded, code_by, coded×}
use Rattle.spec_core.specs.declared.records.Spec.{Spec}
use Rattle.clause_core.specs.declared.clauses.Clause.{Clause}

-- a specification, an order on terms, and clauses
pub record Knowledge (O : Type 0) : Type 0 where
  pub spec : Spec
  pub order : O
  pub clauses : List Clause

-- the same with these clauses
abbrev pub with_clauses : {O : Type 0} → Knowledge O → List Clause → Knowledge O
with_clauses k clauses = record { spec = k.spec; order = k.order; clauses = clauses }

-- it is stored as its three parts
abbrev pub knowledge_code :
    {O : Type 0} → Coded Spec → Coded O → Coded (List Clause) → Coded (Knowledge O)
knowledge_code {O = O} spec order clauses =
    code_by (Spec × (O × List Clause)) (coded× spec (coded× order clauses))
    (λ k. (k.spec, (k.order, k.clauses)))
    (λ p. record { spec = p.0; order = p.1.0; clauses = p.1.1 }) (λ _. refl)
