-- A node as it is, at the node itself: the step refers to the node, with the same sides.
use Rattle.std.proofs.Common.{◌≡◌, ℕ, List, [], ◌∷◌, ◌++◌, Some, Ok, inl, inr, refl, sym, subst}
use Rattle.std.specs.Prelude.{IsPermutation, slice_get}
use Rattle.std.specs.List.{AllZip}
use Rattle.std.proofs.lemmas.List.Sorted.{IsPermutation-refl}
use Rattle.term_core.specs.Tree.{Tree}
use Rattle.spec_core.specs.declared.records.Spec.{Spec}
use Rattle.clause_core.specs.declared.answers.Children.{Children}
use Rattle.clause_core.specs.declared.answers.Reference.{Reference}
use Rattle.clause_core.specs.declared.clauses.Clause.{Clause}
use Rattle.clause_core.specs.declared.clauses.Relation.{Relation}
use Rattle.clause_core.specs.declared.clauses.Relation.TheVariants.{Same}
use Rattle.clause_core.specs.declared.steps.Step.TheVariants.{Subsume}
use Rattle.clause_core.specs.ClauseLaws.{OneRelation}
use Rattle.clause_core.specs.Clauses.{sides, sides_of}
use Rattle.clause_core.specs.Comparing.{Compares}
use Rattle.clause_core.specs.Referred.{instance_here}
use Rattle.clause_core.specs.Says.{IsReference, Says}
use Rattle.clause_core.specs.Steps.{row_of}
use Rattle.clause_core.specs.Subsuming.{subsume_row, subsumed_by}
use Rattle.script_trim.specs.Closing.{own_variables}
use Rattle.script_trim.specs.Fitting.{IsByItself, RefersToItself}
use Rattle.script_trim.proofs.OwnVariables.{premises_stay, conclusions_stay}
use Rattle.script_trim.proofs.Unfit.{same_item, not_both}

module _ (above : Tree → Tree → Type 0) (one : OneRelation above) (spec : Spec) (c : Clause) (i : ℕ) where
  abbrev itself : Clause
  itself = instance_here spec c c (own_variables c)

  sides_stay : sides itself ≡ sides c
  sides_stay = λ j. sides_of (premises_stay c c.ctx j) ++ sides_of (conclusions_stay c c.ctx j)

  same_sides : (r : Relation) → Compares above c itself r → r ≡ Same
  same_sides r h =
      let p : Compares above c itself Same =
      subst (λ ts. IsPermutation (sides c) ts) (sym sides_stay) (IsPermutation-refl (sides c)) in
      one c itself r Same h p

  one_reference :
      (refs : List Reference) → AllZip (IsReference above c) ((i, itself) ∷ []) refs → RefersToItself i refs
  one_reference [] h = absurd h
  one_reference (r ∷ []) h = (0, r, refl, h.0.0, same_sides r.relation h.0.1)
  one_reference (r ∷ s ∷ refs) h = absurd h.1

  module _ (nodes : List Clause) (made : Children) where
    by_clause :
        Says above c nodes (subsumed_by spec c c (own_variables c) (λ instance. (i, instance) ∷ [])) (Ok made) →
        RefersToItself i made.refs
    by_clause (inl (sorted, inl (within, inl (fits, (m, children, refs, inl (limits, e)))))) =
        let same : m ≡ made = cc in
        subst (λ (x : Children). RefersToItself i x.refs) same (one_reference m.refs refs)
    by_clause (inl (sorted, inl (within, inl (fits, (m, children, refs, inr (limits, e)))))) = not_both made _ e
    by_clause (inl (sorted, inl (within, inr (isnt, e)))) = not_both made _ e
    by_clause (inl (sorted, inr (isnt, e))) = not_both made _ e
    by_clause (inr (isnt, e)) = not_both made _ e

    by_node :
        slice_get nodes i ≡ Some c → Says above c nodes (subsume_row spec c nodes i (own_variables c)) (Ok made) →
        RefersToItself i made.refs
    by_node at (inl (node, rest)) =
        by_clause (subst (λ (x : Clause). Says above c nodes
        (subsumed_by spec c x (own_variables c) (λ instance. (i, instance) ∷ [])) (Ok made))
        (same_item (slice_get nodes i) node.clause c node.is at) rest)
    by_node at (inr (isnt, e)) = not_both made _ e

  pub is_by_itself :
      (usable : ℕ → Type 0) (nodes : List Clause) → slice_get nodes i ≡ Some c →
      IsByItself above spec usable nodes i (Subsume i (own_variables c))
  is_by_itself usable nodes at made makes =
      by_node nodes made at
      (subst (λ (x : Clause). Says above x nodes (row_of spec usable nodes x (Subsume i (own_variables c))) (Ok made))
      (same_item (slice_get nodes i) makes.clause c makes.is at) makes.says)
