-- The row of the step that rewrites a term by each rule of a left side: `case`.
use Rattle.std.specs.Prelude.{ℕ, List, [], ◌++◌, map}
use Rattle.term_core.specs.Tree.{Tree, instance}
use Rattle.spec_core.specs.declared.records.Equation.{Equation}
use Rattle.spec_core.specs.declared.records.Rule.{Rule}
use Rattle.spec_core.specs.declared.records.Spec.{Spec}
use Rattle.clause_core.specs.declared.clauses.Clause.{Clause}
use Rattle.clause_core.specs.declared.clauses.Relation.TheVariants.{Less}
use Rattle.clause_core.specs.declared.steps.Place.{Place}
use Rattle.clause_core.specs.declared.answers.Why.TheVariants.{DoesNotFit}
use Rattle.clause_core.specs.Places.{TermAt, holding}
use Rattle.clause_core.specs.Rows.{Made, Row, child, needs, makes}
use Rattle.clause_core.specs.RuleInstances.{IsInstance, guard_equations, group_of}
use Rattle.clause_core.specs.Rewriting.{with_rule_at}

abbrev pub with_premises : Clause → List Equation → Clause
with_premises c es =
    record { ctx = c.ctx; premises = c.premises ++ es; conclusions = c.conclusions }

module _ (spec : Spec) (c : Clause) where
  -- the place holds the instance of the right side, and the guards are added to the premises
  abbrev pub case_child : {place : Place} → TermAt c place → List Tree → Rule → Made
  case_child at terms r =
      child Less (with_premises (holding at (instance terms r.right)) (guard_equations terms r))

  abbrev pub case_row : Place → ℕ → Row
  case_row place number =
      with_rule_at spec c place number (λ at rule.
      needs (IsInstance rule at.term) DoesNotFit (λ m.
      makes (map (case_child at m.terms) (group_of spec rule.left)) []))
