-- What a step makes, without the clauses of children.
use Rattle.std.specs.Prelude.{[], map}
use Rattle.clause_core.specs.declared.clauses.Clause.{Clause}
use Rattle.clause_core.specs.declared.answers.Child.{Child}
use Rattle.clause_core.specs.declared.answers.Children.{Children}

abbrev pub without_sides : Clause
without_sides = record { ctx = []; premises = []; conclusions = [] }

-- the relations of the children, which are here without their clauses, and the references
abbrev pub links_of : Children → Children
links_of made = record {
  clauses =
      map (λ (d : Child). record { clause = without_sides; relation = d.relation }) made.clauses;
  refs = made.refs;
}
