-- `decompose` at a clause of one equation.
use Rattle.std.proofs.Common.{◌≡◌, ℕ, ◌+◌, ◌≤◌, List, [], ◌∷◌, true, inl, refl, subst, map, length, arith}
use Rattle.std.specs.Prelude.{Ok}
use Rattle.std.specs.List.{AllByRecursion, AllZip}
use Rattle.std.proofs.lemmas.List.{length-map}
use Rattle.term_core.specs.Tree.{Tree, Trees, app}
use Rattle.term_core.specs.declared.ids.SortId.{SortId}
use Rattle.spec_core.specs.declared.records.Equation.{Equation}
use Rattle.spec_core.specs.declared.records.Spec.{Spec}
use Rattle.spec_core.specs.Sig.{IsConstructor}
use Rattle.clause_core.specs.declared.clauses.Clause.{Clause}
use Rattle.clause_core.specs.declared.clauses.Relation.TheVariants.{Less}
use Rattle.clause_core.specs.declared.steps.Step.{Step}
use Rattle.clause_core.specs.declared.steps.Step.TheVariants.{Decompose}
use Rattle.clause_core.specs.declared.answers.Child.{Child}
use Rattle.clause_core.specs.declared.answers.Children.{Children}
use Rattle.clause_core.specs.declared.answers.Why.TheVariants.{NoSuchPlace, DoesNotFit}
use Rattle.clause_core.specs.Limits.{IsWithin}
use Rattle.clause_core.specs.Says.{Says, IsChild}
use Rattle.clause_core.specs.Simplifying.{SameHeads, pairs, taken_apart}
use Rattle.clause_core.specs.Steps.{row_of}
use Rattle.clause_core.specs.Tidied.{tidied}
use Rattle.plain_proof.specs.Closings.{HaveSameHead}
use Rattle.plain_search.specs.Choices.{IsDecomposition, IsPossible}
use Rattle.plain_search.proofs.Conditions.{is_met, only_equation, is_only}
use Rattle.plain_search.proofs.UseSteps.{clause_of}

-- a child for each equation, which is Less
abbrev pub child_of : List SortId → Equation → Child
child_of ctx e = record { clause = tidied (clause_of ctx e); relation = Less }

abbrev pub a_child_each : List SortId → List Equation → Children
a_child_each ctx es = record { clauses = map (child_of ctx) es; refs = [] }

module _ (above : Tree → Tree → Type 0) (spec : Spec) (usable : ℕ → Type 0) (nodes : List Clause)
    (ctx : List SortId) (e : Equation) where
  are_made : (es : List Equation) →
      AllZip (IsChild above (clause_of ctx e)) (taken_apart spec (clause_of ctx e) true (only_equation e) es)
      (map (child_of ctx) es)
  are_made [] = tt
  are_made (d ∷ es) = ((refl, refl), are_made es)

  pub decompose_says :
      (f : ℕ) (ts us : Trees) → IsConstructor spec.sig f → e.left ≡ app f ts → e.right ≡ app f us →
      length nodes + length (pairs ts us) ≤ 10000 →
      AllByRecursion (λ (d : Child). IsWithin d.clause) (map (child_of ctx) (pairs ts us)) →
      Says above (clause_of ctx e) nodes (row_of spec usable nodes (clause_of ctx e) (Decompose true 1))
      (Ok (a_child_each ctx (pairs ts us)))
  decompose_says f ts us con p q few within =
      let heads : SameHeads spec.sig e = record {
        head = f;
        lefts = ts;
        rights = us;
        constructor = con;
        is_left = p;
        is_right = q;
      } in
      let counted = length-map (pairs ts us) (child_of ctx) in
      inl (
        only_equation e,
        inl (
          heads,
          (
            a_child_each ctx (pairs ts us),
            are_made (pairs ts us),
            tt,
            inl ((within, omega (arith, few, counted)), refl),
          ),
        ),
      )

  -- it is possible if both sides begin with one constructor
  pub no_decomposition : (start : Clause) → (HaveSameHead spec.sig e.left e.right → ⊥) → (s : Step) →
      IsPossible above spec usable start nodes (clause_of ctx e) IsDecomposition s → ⊥
  no_decomposition start apart s (is, made, says) =
      let c = clause_of ctx e in
      let t = subst (λ (x : Step). Says above c nodes (row_of spec usable nodes c x) (Ok made)) is says in
      let at = is_met made NoSuchPlace t in
      let heads = is_met made DoesNotFit at.1 in
      let same = is_only e at.0 in
      let h = subst (λ (x : Equation). SameHeads spec.sig x) same heads.0 in
      apart (h.head, h.lefts, h.rights, h.constructor, h.is_left, h.is_right)
