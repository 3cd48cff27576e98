-- What the rows of `rule` and `case` answer, by a substitution that matches the left side.
use Rattle.std.proofs.Common.{◌≡◌, ℕ, suc, inl, inr, List, [], ◌∷◌, Bool, true, false, cond, Option, Some, Result, Err}
use Rattle.std.proofs.Common.{map, refl, sym, ◌∙◌, subst}
use Rattle.std.specs.Prelude.{slice_get}
use Rattle.std.specs.List.{AllByRecursion, filter}
use Rattle.term_core.specs.Tree.{Tree, instance}
use Rattle.term_core.specs.Same.{same_tree}
use Rattle.spec_core.specs.declared.records.Equation.{Equation}
use Rattle.spec_core.specs.declared.records.Guard.{Guard}
use Rattle.spec_core.specs.declared.records.Rule.{Rule}
use Rattle.spec_core.specs.declared.records.Spec.{Spec}
use Rattle.spec_core.specs.WellSorted.{IsWellSorted, RuleIsSorted}
use Rattle.substitutions.specs.Substitution.{apply}
use Rattle.substitutions.proofs.Instances.{apply_values}
use Rattle.matching.specs.Matching.{HasNoMatch}
use Rattle.clause_core.specs.declared.clauses.Clause.{Clause}
use Rattle.clause_core.specs.declared.steps.Place.{Place}
use Rattle.clause_core.specs.declared.answers.Why.{Why}
use Rattle.clause_core.specs.declared.answers.Why.TheVariants.{NoSuchPlace, NoSuchRule, DoesNotFit}
use Rattle.clause_core.specs.Equations.{Among}
use Rattle.clause_core.specs.Tidied.{tidied}
use Rattle.clause_core.specs.Places.{TermAt, holding}
use Rattle.clause_core.specs.Rows.{Row}
use Rattle.clause_core.specs.RuleInstances.{RuleAt, IsInstance, guard_equations}
use Rattle.clause_core.specs.Rewriting.{GuardsAreThere, with_rule_at, rule_row}
use Rattle.clause_core.specs.CaseSplitting.{with_premises, case_child, case_row}
use Rattle.cond_rewrite.specs.Applied.{applied_guard, applied_case, applied_cases}
use Rattle.cond_rewrite.specs.RowAnswers.{clause_of, AnswersClauses, RowAnswers}
use Rattle.cond_rewrite.proofs.SameTests.{same_is}
use Rattle.cond_rewrite.proofs.Matches.{is_instance, same_right, same_guards}

-- what holds of each guard by a substitution
abbrev pub GuardsAreAmong : List (Option Tree) → List Guard → List Equation → Type 0
GuardsAreAmong s guards premises = AllByRecursion (λ (g : Guard). Among (applied_guard s g) premises) guards

mapped : (s : List (Option Tree)) (premises : List Equation) (gs : List Guard) →
    AllByRecursion (λ (e : Equation). Among e premises) (map (applied_guard s) gs) → GuardsAreAmong s gs premises
mapped s premises [] h = tt
mapped s premises (g ∷ gs) h = (h.0, mapped s premises gs h.1)

unmapped : (s : List (Option Tree)) (premises : List Equation) (gs : List Guard) →
    GuardsAreAmong s gs premises → AllByRecursion (λ (e : Equation). Among e premises) (map (applied_guard s) gs)
unmapped s premises [] h = tt
unmapped s premises (g ∷ gs) h = (h.0, unmapped s premises gs h.1)

module _ (spec : Spec) (fine : IsWellSorted spec) (c : Clause) (place : Place) (number : ℕ) where
  pub no_place : (rest : TermAt c place → Rule → Row) → (TermAt c place → ⊥) →
      RowAnswers (with_rule_at spec c place number rest) (Err NoSuchPlace)
  no_place rest h = inr (h, refl)

  pub no_rule : (rest : TermAt c place → Rule → Row) → TermAt c place → (RuleAt spec number → ⊥) →
      RowAnswers (with_rule_at spec c place number rest) (Err NoSuchRule)
  no_rule rest p h = inl (p, inr (h, refl))

  module _ (p : TermAt c place) (at : RuleAt spec number) where
    sorted : RuleIsSorted spec.sig at.rule
    sorted = fine.rules at.place at.rule at.is

    no_instance : HasNoMatch at.rule.left p.term → IsInstance at.rule p.term → ⊥
    no_instance h m = h (map (λ (t : Tree). Some t) m.terms) (apply_values m.terms at.rule.left ∙ m.is)

    pub rule_misfit : HasNoMatch at.rule.left p.term → RowAnswers (rule_row spec c place number) (Err DoesNotFit)
    rule_misfit h = inl (p, inl (at, inr (λ m. no_instance h m.0, refl)))

    pub case_misfit : HasNoMatch at.rule.left p.term → RowAnswers (case_row spec c place number) (Err DoesNotFit)
    case_misfit h = inl (p, inl (at, inr (no_instance h, refl)))

    module _ (s : List (Option Tree)) (m : apply s at.rule.left ≡ p.term) where
      instance_at : IsInstance at.rule p.term
      instance_at = is_instance spec.sig at.rule sorted s p.term m

      made_same : (i : IsInstance at.rule p.term) → instance i.terms at.rule.left ≡ apply s at.rule.left
      made_same i = i.is ∙ sym m

      guards_of : (i : IsInstance at.rule p.term) →
          guard_equations i.terms at.rule ≡ map (applied_guard s) at.rule.guards
      guards_of i = same_guards spec.sig at.rule sorted at.rule.left refl i.terms s (made_same i)

      there : (i : IsInstance at.rule p.term) → GuardsAreAmong s at.rule.guards c.premises →
          GuardsAreThere c i.terms at.rule
      there i h = subst (λ es. AllByRecursion (λ (e : Equation). Among e c.premises) es) (sym (guards_of i))
          (unmapped s c.premises at.rule.guards h)

      pub guards_missing : (GuardsAreAmong s at.rule.guards c.premises → ⊥) →
          RowAnswers (rule_row spec c place number) (Err DoesNotFit)
      guards_missing h = inl (
        p,
        inl (
          at,
          inr (
            λ f. h (mapped s c.premises at.rule.guards
                (subst (λ es. AllByRecursion (λ (e : Equation). Among e c.premises) es) (guards_of f.0) f.1)),
            refl,
          ),
        ),
      )

      pub rule_answers : GuardsAreAmong s at.rule.guards c.premises → (answer : Result (List Clause) Why) →
          AnswersClauses (tidied (holding p (apply s at.rule.right)) ∷ []) answer →
          RowAnswers (rule_row spec c place number) answer
      rule_answers h answer a =
          let i = instance_at in
          let e : instance i.terms at.rule.right ≡ apply s at.rule.right = same_right spec.sig at.rule sorted
          at.rule.left refl i.terms s (made_same i) in
          inl (
            p,
            inl (
              at,
              inl (
                (i, there i h),
                subst (λ t. AnswersClauses (tidied (holding p t) ∷ []) answer) (sym e) a,
              ),
            ),
          )

      -- the children by the rules of a left side, one rule after the other
      children_same : (i : IsInstance at.rule p.term) (rules : List Rule) →
          ((k : ℕ) (r : Rule) → slice_get rules k ≡ Some r → RuleIsSorted spec.sig r) →
          map clause_of (map (case_child spec c p i.terms)
          (filter (λ (r : Rule). same_tree at.rule.left r.left) rules)) ≡ map tidied
          (applied_cases p s rules at.rule.left)
      children_same i [] h = refl
      children_same i (r ∷ rules) h = by (same_tree at.rule.left r.left) refl
          (children_same i rules (λ k q e. h (suc k) q e))
        where
          Same : Bool → Type 0
          Same b = map clause_of
              (map (case_child spec c p i.terms)
              (cond b (r ∷ filter (λ (q : Rule). same_tree at.rule.left q.left) rules)
              (filter (λ (q : Rule). same_tree at.rule.left q.left) rules))) ≡ map tidied
              (map (applied_case p s) (cond b (r ∷ filter (λ (q : Rule). same_tree at.rule.left q.left) rules)
              (filter (λ (q : Rule). same_tree at.rule.left q.left) rules)))

          by : (b : Bool) → same_tree at.rule.left r.left ≡ b → Same false → Same b
          by false e rest = rest
          by true e rest =
              let q : at.rule.left ≡ r.left = same_is at.rule.left r.left e in
              let right : instance i.terms r.right ≡ apply s r.right = same_right spec.sig r (h 0 r refl)
              at.rule.left q i.terms s (made_same i) in
              let guards : guard_equations i.terms r ≡ map (applied_guard s) r.guards = same_guards spec.sig r
              (h 0 r refl) at.rule.left q i.terms s (made_same i) in
              λ j. tidied (with_premises (holding p (right j)) (guards j)) ∷ rest j

      pub case_answers : (answer : Result (List Clause) Why) →
          AnswersClauses (map tidied (applied_cases p s spec.rules at.rule.left)) answer →
          RowAnswers (case_row spec c place number) answer
      case_answers answer a = inl (
        p,
        inl (
          at,
          inl (
            instance_at,
            subst (λ ds. AnswersClauses ds answer) (sym (children_same instance_at spec.rules fine.rules)) a,
          ),
        ),
      )
