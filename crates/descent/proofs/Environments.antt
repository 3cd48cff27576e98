-- An instance by a list of terms is one under the terms as an environment.
use Rattle.std.proofs.Common.{◌≡◌, List, [], ◌∷◌, Some, map}
use Rattle.term_core.specs.Tree.{Tree, instance}
use Rattle.term_core.specs.declared.ids.SortId.{SortId}
use Rattle.spec_core.specs.declared.records.Equation.{Equation}
use Rattle.substitutions.proofs.Instances.{apply_values}
use Rattle.clause_core.specs.declared.clauses.Clause.{Clause}
use Rattle.clause_core.specs.ClauseInstances.{equation_instance}
use Rattle.clause_core.specs.Instances.{instance_by}

abbrev pub equation_under : List Tree → Equation → Equation
equation_under terms e = record { left = instance terms e.left; right = instance terms e.right }

abbrev pub clause_under : List Tree → List SortId → Clause → Clause
clause_under terms ctx c = record {
  ctx = ctx;
  premises = map (equation_under terms) c.premises;
  conclusions = map (equation_under terms) c.conclusions;
}

equations_by : (terms : List Tree) (es : List Equation) →
    map (equation_instance (map (λ (t : Tree). Some t) terms)) es ≡ map (equation_under terms) es
equations_by terms [] = λ i. []
equations_by terms (e ∷ es) = λ i. record {
  left = apply_values terms e.left i;
  right = apply_values terms
      e.right i;
} ∷ equations_by terms es i

pub instance_under : (terms : List Tree) (ctx : List SortId) (c : Clause) →
    instance_by terms ctx c ≡ clause_under terms ctx c
instance_under terms ctx c = λ i. record {
  ctx = ctx;
  premises = equations_by terms c.premises i;
  conclusions = equations_by terms c.conclusions i;
}
