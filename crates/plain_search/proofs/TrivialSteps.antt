-- `trivial` at a clause of one equation.
use Rattle.std.proofs.Common.{◌≡◌, ℕ, ◌≤◌, List, [], inl, refl, ap, sym, ◌∙◌, subst, length, arith}
use Rattle.std.specs.Prelude.{Ok}
use Rattle.term_core.specs.Tree.{Tree}
use Rattle.term_core.specs.declared.ids.SortId.{SortId}
use Rattle.spec_core.specs.declared.records.Equation.{Equation}
use Rattle.spec_core.specs.declared.records.Spec.{Spec}
use Rattle.clause_core.specs.declared.clauses.Clause.{Clause}
use Rattle.clause_core.specs.declared.steps.Step.{Step}
use Rattle.clause_core.specs.declared.steps.Step.TheVariants.{Trivial}
use Rattle.clause_core.specs.declared.answers.Children.{Children}
use Rattle.clause_core.specs.declared.answers.Why.TheVariants.{NoSuchPlace, DoesNotFit}
use Rattle.clause_core.specs.Says.{Says}
use Rattle.clause_core.specs.Steps.{row_of}
use Rattle.plain_proof.specs.Limits.{equation_clause}
use Rattle.plain_search.specs.Choices.{IsTrivial, IsPossible}
use Rattle.plain_search.proofs.Conditions.{is_met, only_equation, is_only}

-- nothing is made
abbrev pub nothing : Children
nothing = record { clauses = []; refs = [] }

module _ (above : Tree → Tree → Type 0) (spec : Spec) (usable : ℕ → Type 0) (nodes : List Clause)
    (ctx : List SortId) (l r : Tree) where
  abbrev here : Equation
  here = record { left = l; right = r }

  pub trivial_says : length nodes ≤ 10000 → l ≡ r →
      Says above (equation_clause ctx l r) nodes
      (row_of spec usable nodes (equation_clause ctx l r) (Trivial 1)) (Ok nothing)
  trivial_says few same = inl (only_equation here, inl (same, (nothing, tt, tt, inl ((tt, omega (arith, few)), refl))))

  -- it is possible if both sides are the same
  pub trivial_same : (start : Clause) (s : Step) →
      IsPossible above spec usable start nodes (equation_clause ctx l r) IsTrivial s → l ≡ r
  trivial_same start s (is, made, says) =
      let c = equation_clause ctx l r in
      let t = subst (λ (x : Step). Says above c nodes (row_of spec usable nodes c x) (Ok made)) is says in
      let at = is_met made NoSuchPlace t in
      let same = is_met made DoesNotFit at.1 in
      let e = is_only here at.0 in
      ap (λ (x : Equation). x.left) (sym e) ∙ same.0 ∙ ap (λ (x : Equation). x.right) e
