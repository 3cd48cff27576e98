-- The row of the step that rewrites a term by a rule: `rule`.
use Rattle.std.specs.Prelude.{ℕ, List, [], ◌∷◌}
use Rattle.std.specs.List.{AllByRecursion}
use Rattle.term_core.specs.Tree.{Tree, instance}
use Rattle.spec_core.specs.declared.records.Equation.{Equation}
use Rattle.spec_core.specs.declared.records.Rule.{Rule}
use Rattle.spec_core.specs.declared.records.Spec.{Spec}
use Rattle.clause_core.specs.declared.clauses.Clause.{Clause}
use Rattle.clause_core.specs.declared.clauses.Relation.TheVariants.{Less}
use Rattle.clause_core.specs.declared.steps.Place.{Place}
use Rattle.clause_core.specs.declared.answers.Why.TheVariants.{NoSuchPlace, NoSuchRule, DoesNotFit}
use Rattle.clause_core.specs.Equations.{Among}
use Rattle.clause_core.specs.Places.{TermAt, holding}
use Rattle.clause_core.specs.Rows.{Row, child, needs, makes}
use Rattle.clause_core.specs.RuleInstances.{RuleAt, IsInstance, guard_equations}

-- each guard's instance, equated to the constant that it wants, is among the premises
abbrev pub GuardsAreThere : Clause → List Tree → Rule → Type 0
GuardsAreThere c terms rule =
    AllByRecursion (λ (e : Equation). Among e c.premises) (guard_equations terms rule)

module _ (spec : Spec) (c : Clause) where
  -- what `rule` and `case` ask of the place and of the rule's number, before the rest
  abbrev pub with_rule_at : (place : Place) → ℕ → (TermAt c place → Rule → Row) → Row
  with_rule_at place number rest =
      needs (TermAt c place) NoSuchPlace (λ at.
      needs (RuleAt spec number) NoSuchRule (λ by_rule.
      rest at by_rule.rule))

  abbrev pub rule_row : Place → ℕ → Row
  rule_row place number =
      with_rule_at place number (λ at rule.
      needs ((m : IsInstance rule at.term) × GuardsAreThere c m.terms rule) DoesNotFit (λ m.
      makes (child Less (holding at (instance m.0.terms rule.right)) ∷ []) []))
