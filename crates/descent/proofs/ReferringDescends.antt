-- One step of descent for `subsume` and `by-lemma`, and for `hyp` and `lemma`: a node that is made, or a goal, with terms for its variables.
use Rattle.std.proofs.Common.{◌≡◌, ◌⊎◌, ℕ, List, [], ◌∷◌, Bool, not, Some, map, inl, inr, refl, sym, subst}
use Rattle.std.specs.Prelude.{Ok, slice_get, Contains}
use Rattle.std.specs.List.{AllZip}
use Rattle.term_core.specs.declared.ids.SortId.{SortId}
use Rattle.term_core.specs.Tree.{Tree, instance}
use Rattle.term_core.proofs.SameTrees.{same_tree_or_not}
use Rattle.spec_core.specs.declared.records.Spec.{Spec}
use Rattle.spec_core.specs.Sorts.{Sorted}
use Rattle.spec_core.specs.Gives.{Gives}
use Rattle.spec_core.specs.Truth.{EquationHolds, AllHold, AllBroken}
use Rattle.spec_core.specs.WellSorted.{IsWellSorted}
use Rattle.term_order.specs.Laws.{HasRanks}
use Rattle.clause_core.specs.declared.clauses.Clause.{Clause}
use Rattle.clause_core.specs.declared.steps.Place.{Place}
use Rattle.clause_core.specs.declared.steps.Step.TheVariants.{Subsume, ByLemma, Hyp, Lemma}
use Rattle.clause_core.specs.declared.answers.Children.{Children}
use Rattle.clause_core.specs.declared.answers.Reference.{Reference}
use Rattle.clause_core.specs.declared.answers.Why.TheVariants.{NoSuchNode, NoSuchPlace, DoesNotFit, NotProvedBefore}
use Rattle.clause_core.specs.declared.answers.Why.TheVariants.{Sort, Limit}
use Rattle.clause_core.specs.Clauses.{ClauseIsSorted}
use Rattle.clause_core.specs.Limits.{IsWithin}
use Rattle.clause_core.specs.Tidied.{goal_clause}
use Rattle.clause_core.specs.Admitted.{IsAdmitted}
use Rattle.clause_core.specs.Places.{side, holding}
use Rattle.clause_core.specs.Referred.{UsableGoal, PremisesAreThere, AreTermsFor}
use Rattle.clause_core.specs.Subsuming.{Subsumes}
use Rattle.clause_core.specs.Replacing.{Rewrites, replaced_by}
use Rattle.clause_core.specs.Rows.{Made, Row, compared_child, needs, makes}
use Rattle.clause_core.specs.Says.{IsReference, Says}
use Rattle.clause_core.specs.Failing.{ClauseFails}
use Rattle.descent.specs.OneValue.{ValuesRankLower}
use Rattle.descent.specs.Descent.{GoesOn, AreTrue, StepDescends}
use Rattle.descent.proofs.Environments.{equation_under, clause_under, instance_under}
use Rattle.descent.proofs.SortedEquations.{Each, each_sorted}
use Rattle.descent.proofs.StepDescents.{no_reason, makes_these}
use Rattle.descent.proofs.EqualTerms.{exchange_goes}
use Rattle.descent.proofs.Valued.{FailsLower, fails_lower}
use Rattle.descent.proofs.Referring.{some_value, premises_hold, all_broken, each_by_terms, refers_goes}
use Rattle.descent.proofs.Untidied.{goal_sorted, true_holds}

-- the only reference
ref_made : (above : Tree → Tree → Type 0) (c : Clause) (n : ℕ) (d : Clause) (ms : List Reference) →
    AllZip (IsReference above c) ((n, d) ∷ []) ms → (r : Reference) × (slice_get ms 0 ≡ Some r)
    × IsReference above c (n, d) r
ref_made above c n d [] p = absurd p
ref_made above c n d (m ∷ ms) p = (m, refl, p.0)

module _ (above : Tree → Tree → Type 0) (rank : ℕ → ℕ → Tree → ℕ → Type 0) (laws : HasRanks above rank)
    (exist : ValuesRankLower above rank) (spec : Spec) (fine : IsWellSorted spec)
    (admitted : IsAdmitted above spec) (nodes : List Clause) (c : Clause) (made : Children)
    (sorted : ClauseIsSorted spec.sig c) (xs : List Tree) (fails : ClauseFails spec c xs) where
  module _ (d : Clause) (terms : List Tree) (sorted_terms : AreTermsFor spec c d terms)
      (sorted_d : ClauseIsSorted spec.sig d) where
    here_premises : PremisesAreThere c (clause_under terms c.ctx d) →
        AllHold spec xs (map (equation_under terms) d.premises)
    here_premises there = premises_hold above rank laws exist spec fine admitted c.ctx xs fails.values_fit
        c.premises (map (equation_under terms) d.premises) fails.premises
        (each_by_terms spec.sig d.ctx c.ctx terms sorted_terms d.premises
        (each_sorted spec.sig d.ctx d.premises sorted_d.premises)) there

    -- the clause that subsumes this one fails, and weighs no more than its instance
    here_fails : Subsumes c (clause_under terms c.ctx d) →
        FailsLower above rank laws exist spec fine admitted c d terms sorted_terms sorted_d xs fails.values_fit
    here_fails subsumes = fails_lower above rank laws exist spec fine admitted c d terms sorted_terms sorted_d
        xs fails.values_fit (here_premises subsumes.0)
        (all_broken spec xs (map (equation_under terms) d.conclusions) c.conclusions fails.conclusions subsumes.1)

    -- the instance's only conclusion holds, or the clause fails
    holds_or_fails : (t : Tree) (left : Bool) (r : Rewrites c (clause_under terms c.ctx d) t left) →
        EquationHolds spec xs r.equation ⊎ FailsLower above rank laws exist spec fine admitted c d terms
        sorted_terms sorted_d xs fails.values_fit
    holds_or_fails t left r = by (same_tree_or_not a.0 b.0)
      where
        es : (s : SortId) × Sorted spec.sig c.ctx r.equation.left s × Sorted spec.sig c.ctx r.equation.right s
        es = (subst (λ ds. Each spec.sig c.ctx ds) r.alone
            (each_by_terms spec.sig d.ctx c.ctx terms sorted_terms d.conclusions
            (each_sorted spec.sig d.ctx d.conclusions sorted_d.conclusions))).0

        a : (v : Tree) × (n : ℕ) × Gives spec (instance xs r.equation.left) v n
        a = some_value above rank laws exist spec fine admitted c.ctx xs fails.values_fit r.equation.left es.0 es.1

        b : (v : Tree) × (n : ℕ) × Gives spec (instance xs r.equation.right) v n
        b = some_value above rank laws exist spec fine admitted c.ctx xs fails.values_fit r.equation.right es.0 es.2

        by : (a.0 ≡ b.0) ⊎ (a.0 ≡ b.0 → ⊥) → EquationHolds spec xs r.equation
            ⊎ FailsLower above rank laws exist spec fine admitted c d terms sorted_terms sorted_d xs fails.values_fit
        by (inl e) = inl (a.0, a.1, b.1, a.2, subst (λ v. Gives spec (instance xs r.equation.right) v b.1) (sym e) b.2)
        by (inr e) = inr (fails_lower above rank laws exist spec fine admitted c d terms sorted_terms sorted_d
            xs fails.values_fit (here_premises r.premises)
            (subst (λ ds. AllBroken spec xs ds) (sym r.alone) ((a.0, b.0, a.1, b.1, e, a.2, b.2), tt)))

    equation_sorted : (t : Tree) (left : Bool) (r : Rewrites c (clause_under terms c.ctx d) t left) →
        (s : SortId) × Sorted spec.sig c.ctx r.equation.left s × Sorted spec.sig c.ctx r.equation.right s
    equation_sorted t left
        r = (subst (λ ds. Each spec.sig c.ctx ds) r.alone (each_by_terms spec.sig d.ctx c.ctx terms sorted_terms
        d.conclusions (each_sorted spec.sig d.ctx d.conclusions sorted_d.conclusions))).0

    -- on to the node that is referred to
    refers : (number : ℕ) → slice_get nodes number ≡ Some d →
        FailsLower above rank laws exist spec fine admitted c d terms sorted_terms sorted_d xs
        fails.values_fit → IsWithin (clause_under terms c.ctx d) → (cs : List Made) →
        Says above c nodes (makes cs ((number, clause_under terms c.ctx d) ∷ [])) (Ok made) →
        GoesOn rank spec nodes c xs made
    refers number is down within cs m =
        let r = ref_made above c number (clause_under terms c.ctx d) made.refs
        (makes_these above c nodes made cs ((number, clause_under terms c.ctx d) ∷ []) m).1 in
        inr (
          0,
          r.0,
          d,
          r.1,
          subst (λ k. slice_get nodes k ≡ Some d) (sym r.2.0) is,
          refers_goes above rank laws exist spec fine admitted c d terms sorted_terms sorted_d xs sorted fails
              down within r.0.relation r.2.1,
        )

module _ (above : Tree → Tree → Type 0) (rank : ℕ → ℕ → Tree → ℕ → Type 0) (laws : HasRanks above rank)
    (exist : ValuesRankLower above rank) (spec : Spec) (fine : IsWellSorted spec)
    (admitted : IsAdmitted above spec) (nodes : List Clause) (c : Clause) (made : Children)
    (sorted : ClauseIsSorted spec.sig c) (xs : List Tree) (fails : ClauseFails spec c xs) (numbers : List ℕ)
    (lemmas : AreTrue spec numbers) where
  -- the clause of a true goal doesn't fail
  goal_holds : (name : List ℕ) (g : UsableGoal spec (Contains numbers) name) → (ws : List Tree) →
      ClauseFails spec (goal_clause g.goal) ws → ⊥
  goal_holds name g ws f = true_holds spec fine admitted.apart admitted.whole g.goal
      (fine.goals g.number g.goal g.is) (lemmas g.number g.goal g.may_be_used g.is) ws f

  -- the rows, over the instance under the terms
  abbrev Answers : Row → Type 0
  Answers row = Says above c nodes row (Ok made)

  subsumed : (number : ℕ) (d : Clause) → slice_get nodes number ≡ Some d → ClauseIsSorted spec.sig d →
      (terms : List Tree) → AreTermsFor spec c d terms → IsWithin (clause_under terms c.ctx d) →
      Answers (needs (Subsumes c (clause_under terms c.ctx d)) DoesNotFit
      (λ s. makes [] ((number, clause_under terms c.ctx d) ∷ []))) → GoesOn rank spec nodes c xs made
  subsumed number d is sorted_d terms ts within (inl (subsumes, m)) = refers above rank laws exist spec fine
      admitted nodes c made sorted xs fails d terms ts sorted_d number is
      (here_fails above rank laws exist spec fine admitted nodes c made sorted xs fails d terms ts sorted_d
      subsumes) within [] m
  subsumed number d is sorted_d terms ts within (inr h) = absurd (no_reason above c nodes made DoesNotFit h.1)

  by_lemma : (name : List ℕ) (g : UsableGoal spec (Contains numbers) name) (terms : List Tree) →
      AreTermsFor spec c (goal_clause g.goal) terms →
      Answers (needs (Subsumes c (clause_under terms c.ctx (goal_clause g.goal))) DoesNotFit
      (λ s. makes [] [])) → GoesOn rank spec nodes c xs made
  by_lemma name g terms ts (inl (subsumes, m)) =
      let sorted_d = goal_sorted spec.sig g.goal (fine.goals g.number g.goal g.is) fine.signature in
      let down = here_fails above rank laws exist spec fine admitted nodes c made sorted xs fails
      (goal_clause g.goal) terms ts sorted_d subsumes in
      absurd (goal_holds name g down.others down.fails)
  by_lemma name g terms ts (inr h) = absurd (no_reason above c nodes made DoesNotFit h.1)

  rewritten : (number : ℕ) (d : Clause) → slice_get nodes number ≡ Some d → ClauseIsSorted spec.sig d →
      (terms : List Tree) → AreTermsFor spec c d terms → IsWithin (clause_under terms c.ctx d) →
      (place : Place) (left : Bool) →
      Answers (replaced_by spec c (clause_under terms c.ctx d) place left
      ((number, clause_under terms c.ctx d) ∷ [])) → GoesOn rank spec nodes c xs made
  rewritten number d is sorted_d terms ts within place left (inl (at, inl (r, m))) =
      elim (holds_or_fails above rank laws exist spec fine admitted nodes c made sorted xs fails d terms ts
      sorted_d at.term left r) [
        | inl h ↦ exchange_goes above rank laws spec fine admitted nodes c made sorted xs fails place at left
            r.equation (equation_sorted above rank laws exist spec fine admitted nodes c made sorted xs fails d
            terms ts sorted_d at.term left r) h r.is ((number, clause_under terms c.ctx d) ∷ []) m
        | inr down ↦ refers above rank laws exist spec fine admitted nodes c made sorted xs fails d terms ts
            sorted_d number is down within (compared_child (holding at (side (not left) r.equation)) ∷ []) m
      ]
  rewritten number d is sorted_d terms ts within place left (inl (at, inr h)) = absurd
      (no_reason above c nodes made DoesNotFit h.1)
  rewritten number d is sorted_d terms ts within place left (inr h) = absurd
      (no_reason above c nodes made NoSuchPlace h.1)

  by_equation : (name : List ℕ) (g : UsableGoal spec (Contains numbers) name) (terms : List Tree) →
      AreTermsFor spec c (goal_clause g.goal) terms → (place : Place) (left : Bool) →
      Answers (replaced_by spec c (clause_under terms c.ctx (goal_clause g.goal)) place left []) →
      GoesOn rank spec nodes c xs made
  by_equation name g terms ts place left (inl (at, inl (r, m))) =
      let sorted_d = goal_sorted spec.sig g.goal (fine.goals g.number g.goal g.is) fine.signature in
      elim (holds_or_fails above rank laws exist spec fine admitted nodes c made sorted xs fails
      (goal_clause g.goal) terms ts sorted_d at.term left r) [
        | inl h ↦ exchange_goes above rank laws spec fine admitted nodes c made sorted xs fails place at left
            r.equation (equation_sorted above rank laws exist spec fine admitted nodes c made sorted xs fails
            (goal_clause g.goal) terms ts sorted_d at.term left r) h r.is [] m
        | inr down ↦ absurd (goal_holds name g down.others down.fails)
      ]
  by_equation name g terms ts place left (inl (at, inr h)) = absurd (no_reason above c nodes made DoesNotFit h.1)
  by_equation name g terms ts place left (inr h) = absurd (no_reason above c nodes made NoSuchPlace h.1)

module _ (above : Tree → Tree → Type 0) (rank : ℕ → ℕ → Tree → ℕ → Type 0) (laws : HasRanks above rank)
    (exist : ValuesRankLower above rank) where
  pub subsume_descends : (number : ℕ) (terms : List Tree) → StepDescends above rank (Subsume number terms)
  subsume_descends number terms spec numbers nodes c made xs fine admitted lemmas nodes_sorted sorted
      (inl (node, inl (ts, inl (within, says)))) fails =
      let e = instance_under terms c.ctx node.clause in
      subsumed above rank laws exist spec fine admitted nodes c made sorted xs fails numbers lemmas number
      node.clause node.is (nodes_sorted number node.clause node.is) terms ts (subst IsWithin e within)
      (subst (λ i. Says above c nodes (needs (Subsumes c i) DoesNotFit (λ s. makes [] ((number, i) ∷ [])))
      (Ok made)) e says)
  subsume_descends number terms spec numbers nodes c made xs fine admitted lemmas nodes_sorted sorted
      (inl (node, inl (ts, inr h))) fails = absurd (no_reason above c nodes made Limit h.1)
  subsume_descends number terms spec numbers nodes c made xs fine admitted lemmas nodes_sorted sorted
      (inl (node, inr h)) fails = absurd (no_reason above c nodes made Sort h.1)
  subsume_descends number terms spec numbers nodes c made xs fine admitted lemmas nodes_sorted sorted (inr h)
      fails = absurd (no_reason above c nodes made NoSuchNode h.1)

  pub by_lemma_descends : (name : List ℕ) (terms : List Tree) → StepDescends above rank (ByLemma name terms)
  by_lemma_descends name terms spec numbers nodes c made xs fine admitted lemmas nodes_sorted sorted
      (inl (g, inl (ts, inl (within, says)))) fails =
      by_lemma above rank laws exist spec fine admitted nodes c made sorted xs fails numbers lemmas name g terms ts
      (subst (λ i. Says above c nodes (needs (Subsumes c i) DoesNotFit (λ s. makes [] [])) (Ok made))
      (instance_under terms c.ctx (goal_clause g.goal)) says)
  by_lemma_descends name terms spec numbers nodes c made xs fine admitted lemmas nodes_sorted sorted
      (inl (g, inl (ts, inr h))) fails = absurd (no_reason above c nodes made Limit h.1)
  by_lemma_descends name terms spec numbers nodes c made xs fine admitted lemmas nodes_sorted sorted
      (inl (g, inr h)) fails = absurd (no_reason above c nodes made Sort h.1)
  by_lemma_descends name terms spec numbers nodes c made xs fine admitted lemmas nodes_sorted sorted (inr h)
      fails = absurd (no_reason above c nodes made NotProvedBefore h.1)

  pub hyp_descends : (number : ℕ) (terms : List Tree) (place : Place) (left : Bool) →
      StepDescends above rank (Hyp number terms place left)
  hyp_descends number terms place left spec numbers nodes c made xs fine admitted lemmas nodes_sorted sorted
      (inl (node, inl (ts, inl (within, says)))) fails =
      let e = instance_under terms c.ctx node.clause in
      rewritten above rank laws exist spec fine admitted nodes c made sorted xs fails numbers lemmas number
      node.clause node.is (nodes_sorted number node.clause node.is) terms ts (subst IsWithin e within) place left
      (subst (λ i. Says above c nodes (replaced_by spec c i place left ((number, i) ∷ [])) (Ok made)) e says)
  hyp_descends number terms place left spec numbers nodes c made xs fine admitted lemmas nodes_sorted sorted
      (inl (node, inl (ts, inr h))) fails = absurd (no_reason above c nodes made Limit h.1)
  hyp_descends number terms place left spec numbers nodes c made xs fine admitted lemmas nodes_sorted sorted
      (inl (node, inr h)) fails = absurd (no_reason above c nodes made Sort h.1)
  hyp_descends number terms place left spec numbers nodes c made xs fine admitted lemmas nodes_sorted sorted
      (inr h) fails = absurd (no_reason above c nodes made NoSuchNode h.1)

  pub lemma_descends : (name : List ℕ) (terms : List Tree) (place : Place) (left : Bool) →
      StepDescends above rank (Lemma name terms place left)
  lemma_descends name terms place left spec numbers nodes c made xs fine admitted lemmas nodes_sorted sorted
      (inl (g, inl (ts, inl (within, says)))) fails =
      by_equation above rank laws exist spec fine admitted nodes c made sorted xs fails numbers lemmas name g
      terms ts place left
      (subst (λ i. Says above c nodes (replaced_by spec c i place left []) (Ok made))
      (instance_under terms c.ctx (goal_clause g.goal)) says)
  lemma_descends name terms place left spec numbers nodes c made xs fine admitted lemmas nodes_sorted sorted
      (inl (g, inl (ts, inr h))) fails = absurd (no_reason above c nodes made Limit h.1)
  lemma_descends name terms place left spec numbers nodes c made xs fine admitted lemmas nodes_sorted sorted
      (inl (g, inr h)) fails = absurd (no_reason above c nodes made Sort h.1)
  lemma_descends name terms place left spec numbers nodes c made xs fine admitted lemmas nodes_sorted sorted
      (inr h) fails = absurd (no_reason above c nodes made NotProvedBefore h.1)
