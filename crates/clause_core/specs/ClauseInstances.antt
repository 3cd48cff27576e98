-- Instances of clauses.
use Rattle.std.specs.Prelude.{List, Option, map}
use Rattle.term_core.specs.Tree.{Tree}
use Rattle.term_core.specs.declared.ids.SortId.{SortId}
use Rattle.spec_core.specs.declared.records.Equation.{Equation}
use Rattle.substitutions.specs.Substitution.{apply}
use Rattle.clause_core.specs.declared.clauses.Clause.{Clause}

abbrev pub equation_instance : List (Option Tree) → Equation → Equation
equation_instance entries e =
    record { left = apply entries e.left; right = apply entries e.right }

-- the clause with these entries put in for its variables, over the variables of ctx
abbrev pub clause_instance : List (Option Tree) → List SortId → Clause → Clause
clause_instance entries ctx c = record {
  ctx = ctx;
  premises = map (equation_instance entries) c.premises;
  conclusions = map (equation_instance entries) c.conclusions;
}
