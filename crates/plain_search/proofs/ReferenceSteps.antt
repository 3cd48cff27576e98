-- `subsume 0` at a clause of one equation, by an instance of the first node with these sides, as written or
-- swapped.
use Rattle.std.proofs.Common.{◌≡◌, ℕ, ◌≤◌, List, [], ◌∷◌, Some, inl, inr, refl, sym, subst, length, arith}
use Rattle.std.specs.Prelude.{Ok, slice_get, IsPermutation}
use Rattle.std.proofs.lemmas.List.Sorted.{IsPermutation-refl, IsPermutation-append_comm}
use Rattle.term_core.specs.Tree.{Tree}
use Rattle.term_core.specs.declared.ids.SortId.{SortId}
use Rattle.spec_core.specs.declared.records.Equation.{Equation}
use Rattle.spec_core.specs.declared.records.Spec.{Spec}
use Rattle.clause_core.specs.declared.clauses.Clause.{Clause}
use Rattle.clause_core.specs.declared.clauses.Relation.TheVariants.{Same}
use Rattle.clause_core.specs.declared.steps.Step.{Step}
use Rattle.clause_core.specs.declared.steps.Step.TheVariants.{Subsume}
use Rattle.clause_core.specs.declared.answers.Children.{Children}
use Rattle.clause_core.specs.declared.answers.Why.TheVariants.{NoSuchNode, Sort}
use Rattle.clause_core.specs.Clauses.{sides}
use Rattle.clause_core.specs.Equations.{Among, swapped}
use Rattle.clause_core.specs.Limits.{IsWithin}
use Rattle.clause_core.specs.Referred.{NodeAt, AreTermsFor, instance_here}
use Rattle.clause_core.specs.Says.{Says}
use Rattle.clause_core.specs.Steps.{row_of}
use Rattle.clause_core.specs.Subsuming.{Subsumes}
use Rattle.clause_core.proofs.OneReferred.{one_get}
use Rattle.plain_search.specs.Choices.{with_terms, IsReference, IsPossible}
use Rattle.plain_search.proofs.Conditions.{is_met}
use Rattle.plain_search.proofs.UseSteps.{clause_of}

-- a reference to the first node, which is Same
abbrev pub to_first : Children
to_first = record { clauses = []; refs = record { node = 0; relation = Same } ∷ [] }

module _ (above : Tree → Tree → Type 0) (spec : Spec) (usable : ℕ → Type 0) (nodes : List Clause)
    (sctx : List SortId) (first : Equation) (there : slice_get nodes 0 ≡ Some (clause_of sctx first))
    (ctx : List SortId) (e : Equation) where
  abbrev start : Clause
  start = clause_of sctx first

  abbrev c : Clause
  c = clause_of ctx e

  instance_is : (terms : List Tree) (d : Equation) → with_terms terms (first ∷ []) ≡ d ∷ [] →
      instance_here spec c start terms ≡ clause_of ctx d
  instance_is terms d is = λ i. record { ctx = ctx; premises = []; conclusions = is i }

  by_instance :
      (terms : List Tree) (d : Equation) → length nodes ≤ 10000 → with_terms terms (first ∷ []) ≡ d ∷ [] →
      AreTermsFor spec c start terms →
      IsWithin (clause_of ctx d) → Among d (e ∷ []) → IsPermutation (sides c) (sides (clause_of ctx d)) →
      Says above c nodes (row_of spec usable nodes c (Subsume 0 terms)) (Ok to_first)
  by_instance terms d few is sorted within among permutes =
      let node : NodeAt nodes 0 = record { clause = start; is = there } in
      let inst = sym (instance_is terms d is) in
      let fits = subst (λ x. IsWithin x) inst within in
      let subsumes = subst (λ x. Subsumes c x) inst (tt, (among, tt)) in
      let same = subst (λ x. IsPermutation (sides c) (sides x)) inst permutes in
      inl (
        node,
        inl (
          sorted,
          inl (fits, inl (subsumes, (to_first, tt, ((refl, same), tt), inl ((tt, omega (arith, few)), refl)))),
        ),
      )

  -- as written
  pub reference_says :
      (terms : List Tree) → length nodes ≤ 10000 → with_terms terms (first ∷ []) ≡ e ∷ [] →
      AreTermsFor spec c start terms → IsWithin c →
      Says above c nodes (row_of spec usable nodes c (Subsume 0 terms)) (Ok to_first)
  reference_says terms few is sorted within = by_instance terms e few is sorted within (inl (inl refl))
      (IsPermutation-refl (sides c))

  -- with the sides swapped
  pub swapped_says :
      (terms : List Tree) → length nodes ≤ 10000 → with_terms terms (first ∷ []) ≡ swapped e ∷ [] →
      AreTermsFor spec c start terms → IsWithin c →
      Says above c nodes (row_of spec usable nodes c (Subsume 0 terms)) (Ok to_first)
  swapped_says terms few is sorted within =
      let w : IsWithin (clause_of ctx (swapped e)) = record {
        equations = within.equations;
        depth = omega
            (arith, within.depth);
        size = omega (arith, within.size);
      } in
      by_instance terms (swapped e) few is sorted w (inl (inr refl))
      (IsPermutation-append_comm (e.left ∷ []) (e.right ∷ []))

  -- if it is possible the terms have the sorts of the first node's variables
  pub terms_fit : (s : Step) (es : List Equation) →
      IsPossible above spec usable start nodes c (IsReference start es) s →
      (terms : List Tree) × (with_terms terms (first ∷ []) ≡ es) × AreTermsFor spec c start terms
  terms_fit s es (is, made, says) =
      let t = subst (λ (x : Step). Says above c nodes (row_of spec usable nodes c x) (Ok made)) is.2 says in
      let node = is_met made NoSuchNode t in
      let sorted = is_met made Sort node.1 in
      let same : node.0.clause ≡ start = one_get nodes 0 0 node.0.clause start node.0.is there refl in
      (is.0, is.1, subst (λ x. AreTermsFor spec c x is.0) same sorted.0)
