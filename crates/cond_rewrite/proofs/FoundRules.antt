-- What the rows of `rule` and `case` answer at a term and by a rule that were found.
use Rattle.std.proofs.Common.{◌≡◌, ℕ, inl, inr, List, [], ◌∷◌, Option, Ok, Err, map, refl, ap, sym, ◌∙◌, subst}
use Rattle.std.specs.List.{AllByRecursion}
use Rattle.term_core.specs.Tree.{Tree}
use Rattle.spec_core.specs.declared.records.Equation.{Equation}
use Rattle.spec_core.specs.declared.records.Guard.{Guard}
use Rattle.spec_core.specs.declared.records.Rule.{Rule}
use Rattle.spec_core.specs.declared.records.Spec.{Spec}
use Rattle.spec_core.specs.WellSorted.{IsWellSorted}
use Rattle.substitutions.specs.Substitution.{apply}
use Rattle.matching.specs.Matching.{HasNoMatch}
use Rattle.clause_core.specs.declared.clauses.Clause.{Clause}
use Rattle.clause_core.specs.declared.steps.Place.{Place}
use Rattle.clause_core.specs.declared.answers.Why.TheVariants.{DoesNotFit, Limit}
use Rattle.clause_core.specs.Limits.{IsWithin}
use Rattle.clause_core.specs.Tidied.{tidied}
use Rattle.clause_core.specs.Places.{TermAt, holding}
use Rattle.clause_core.specs.RuleInstances.{RuleAt}
use Rattle.clause_core.specs.Rewriting.{rule_row}
use Rattle.clause_core.specs.CaseSplitting.{case_row}
use Rattle.cond_rewrite.specs.Applied.{applied_cases}
use Rattle.cond_rewrite.specs.RowAnswers.{RowAnswers}
use Rattle.cond_rewrite.proofs.AppliedRows as rows
use Rattle.cond_rewrite.proofs.AppliedRows.{GuardsAreAmong}

module _ (spec : Spec) (fine : IsWellSorted spec) (c : Clause) (place : Place) (number : ℕ) (t : Tree)
    (found : (p : TermAt c place) × (p.term ≡ t)) (r : Rule) (by_rule : (at : RuleAt spec number) × (at.rule ≡ r)) where
  no_match : HasNoMatch r.left t → HasNoMatch by_rule.0.rule.left found.0.term
  no_match h s e = h s (ap (λ (x : Rule). apply s x.left) (sym by_rule.1) ∙ e ∙ found.1)

  pub rule_misfit : HasNoMatch r.left t → RowAnswers (rule_row spec c place number) (Err DoesNotFit)
  rule_misfit h = rows.rule_misfit spec fine c place number found.0 by_rule.0 (no_match h)

  pub case_misfit : HasNoMatch r.left t → RowAnswers (case_row spec c place number) (Err DoesNotFit)
  case_misfit h = rows.case_misfit spec fine c place number found.0 by_rule.0 (no_match h)

  module _ (s : List (Option Tree)) (m : apply s r.left ≡ t) where
    match_at : apply s by_rule.0.rule.left ≡ found.0.term
    match_at = ap (λ (x : Rule). apply s x.left) by_rule.1 ∙ m ∙ sym found.1

    -- the guards and the premises as they were read
    module _ (gs : List Guard) (premises : List Equation) (guards_are : gs ≡ r.guards)
        (premises_are : premises ≡ c.premises) where
      there : GuardsAreAmong s gs premises → GuardsAreAmong s by_rule.0.rule.guards c.premises
      there h = subst (λ (x : Rule). GuardsAreAmong s x.guards c.premises) (sym by_rule.1)
          (subst (λ xs. GuardsAreAmong s xs c.premises) guards_are
          (subst (λ es. GuardsAreAmong s gs es) premises_are h))

      from_there : GuardsAreAmong s by_rule.0.rule.guards c.premises → GuardsAreAmong s gs premises
      from_there h = subst (λ es. GuardsAreAmong s gs es) (sym premises_are)
          (subst (λ xs. GuardsAreAmong s xs c.premises) (sym guards_are)
          (subst (λ (x : Rule). GuardsAreAmong s x.guards c.premises) by_rule.1 h))

      pub guards_missing : (GuardsAreAmong s gs premises → ⊥) →
          RowAnswers (rule_row spec c place number) (Err DoesNotFit)
      guards_missing h = rows.guards_missing spec fine c place number found.0 by_rule.0 s match_at
          (λ g. h (from_there g))

      pub rule_limit : GuardsAreAmong s gs premises → (IsWithin (tidied (holding found.0 (apply s r.right))) →
          ⊥) → RowAnswers (rule_row spec c place number) (Err Limit)
      rule_limit g h = rows.rule_answers spec fine c place number found.0 by_rule.0 s match_at (there g)
          (Err Limit) (inr (
            λ w. h (subst (λ (x : Rule). IsWithin (tidied (holding found.0 (apply s x.right))))
                by_rule.1 w.0),
            refl,
          ))

      pub rule_made : GuardsAreAmong s gs premises → (d : Clause) →
          d ≡ tidied (holding found.0 (apply s r.right)) → IsWithin d →
          RowAnswers (rule_row spec c place number) (Ok (d ∷ []))
      rule_made g d e w =
          let same : d ≡ tidied (holding found.0 (apply s by_rule.0.rule.right)) = e
          ∙ ap (λ (x : Rule). tidied (holding found.0 (apply s x.right))) (sym by_rule.1) in
          rows.rule_answers spec fine c place number found.0 by_rule.0 s match_at (there g) (Ok (d ∷ []))
          (inl ((subst IsWithin same w, tt), λ i. Ok (same i ∷ [])))

    -- the rules as they were read
    module _ (rules : List Rule) (rules_are : rules ≡ spec.rules) where
      children : map tidied (applied_cases found.0 s rules r.left) ≡ map tidied
          (applied_cases found.0 s spec.rules by_rule.0.rule.left)
      children = ap (λ rs. map tidied (applied_cases found.0 s rs r.left)) rules_are
          ∙ ap (λ (x : Rule). map tidied (applied_cases found.0 s spec.rules x.left)) (sym by_rule.1)

      pub case_limit : (AllByRecursion IsWithin (map tidied (applied_cases found.0 s rules r.left)) → ⊥) →
          RowAnswers (case_row spec c place number) (Err Limit)
      case_limit h = rows.case_answers spec fine c place number found.0 by_rule.0 s match_at (Err Limit)
          (inr (λ w. h (subst (λ ds. AllByRecursion IsWithin ds) (sym children) w), refl))

      pub case_made : (ds : List Clause) → ds ≡ map tidied (applied_cases found.0 s rules r.left) →
          AllByRecursion IsWithin (map tidied (applied_cases found.0 s rules r.left)) →
          RowAnswers (case_row spec c place number) (Ok ds)
      case_made ds e w = rows.case_answers spec fine c place number found.0 by_rule.0 s match_at (Ok ds)
          (inl (subst (λ xs. AllByRecursion IsWithin xs) children w, ap (λ xs. Ok xs) (e ∙ children)))
