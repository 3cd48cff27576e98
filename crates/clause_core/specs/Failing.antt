-- Failing instances of clauses.
use Rattle.std.specs.Prelude.{ℕ, List, map}
use Rattle.term_core.specs.Tree.{Tree, var, instance}
use Rattle.spec_core.specs.declared.records.Spec.{Spec}
use Rattle.spec_core.specs.Truth.{AreValuesOf, AllHold, AllBroken}
use Rattle.clause_core.specs.declared.clauses.Clause.{Clause}

-- values of the variables, under which each premise holds and each conclusion is broken
pub record ClauseFails (spec : Spec) (c : Clause) (values : List Tree) : Type 0 where
  pub values_fit : AreValuesOf spec c.ctx values
  pub premises : AllHold spec values c.premises
  pub conclusions : AllBroken spec values c.conclusions

-- the values of these variables
abbrev pub values_at : List ℕ → List Tree → List Tree
values_at olds values = map (λ n. instance values (var n)) olds
