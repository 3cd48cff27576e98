-- The steps that cover a variable.
use Rattle.std.proofs.Common.{◌≡◌, ℕ, List, [], ◌∷◌, Option, Some, None, sym, subst}
use Rattle.std.specs.Prelude.{slice_get, option_to_list}
use Rattle.std.proofs.lemmas.List.{append-nil}
use Rattle.term_core.specs.declared.ids.SortId.{SortId}
use Rattle.spec_core.specs.declared.records.Spec.{Spec}
use Rattle.clause_core.specs.declared.answers.Children.{Children}
use Rattle.clause_core.specs.declared.clauses.Clause.{Clause}
use Rattle.clause_core.specs.declared.steps.Step.{Step}
use Rattle.clause_core.specs.declared.steps.Step.TheVariants.{Cover}
use Rattle.test_sets.specs.TestSets.{test_set_of}
use Rattle.clause_places.specs.Asked.{asked}
use Rattle.routine_proof.specs.declared.moves.Move.{Move}
use Rattle.routine_proof.specs.Candidates.{Candidate, Gives, certain, each, nothing}
use Rattle.routine_proof.specs.Entries.{cover, demanded_covers}
use Rattle.routine_proof.specs.First.{NoneIs, IsFirst}
use Rattle.proof_search.specs.Taking.{IsTaken}
use Rattle.proof_search.proofs.TakenSteps.{certain_found}

module _ (says : Step → Children → Type 0) (spec : Spec) (c : Clause) where
  pub cover_none : (v : ℕ) → slice_get c.ctx v ≡ None → NoneIs (Gives says) (cover spec c v)
  unfolding each
  cover_none v e =
      subst (λ (o : Option SortId). NoneIs (Gives says)
      (each (option_to_list o) (λ (s : SortId). certain
      (Cover (record { 0 = v }) (test_set_of spec.sig s))))) (sym e) tt

  pub cover_found :
      (v : ℕ) (s : SortId) (found : Option Move) → slice_get c.ctx v ≡ Some s →
      IsTaken says (Cover (record { 0 = v }) (test_set_of spec.sig s)) nothing found →
      IsFirst (Gives says) (cover spec c v) found
  unfolding each
  cover_found v s found e taken =
      subst (λ (o : Option SortId). IsFirst (Gives says)
      (each (option_to_list o) (λ (s : SortId). certain
      (Cover (record { 0 = v }) (test_set_of spec.sig s)))) found) (sym e)
      (certain_found says (Cover (record { 0 = v }) (test_set_of spec.sig s)) found taken)

  pub demanded_none : asked spec c ≡ [] → NoneIs (Gives says) (demanded_covers spec c)
  unfolding each
  demanded_none e = subst (λ (vs : List ℕ). NoneIs (Gives says) (each vs (λ v. cover spec c v)))
      (sym e) tt

  pub demanded_found : (v : ℕ) (found : Option Move) → asked spec c ≡ v ∷ [] →
      IsFirst (Gives says) (cover spec c v) found →
      IsFirst (Gives says) (demanded_covers spec c) found
  unfolding each
  demanded_found v found e first =
      subst (λ (vs : List ℕ). IsFirst (Gives says) (each vs (λ v. cover spec c v)) found) (sym e)
      (subst (λ (cs : List Candidate). IsFirst (Gives says) cs found)
      (sym (append-nil (cover spec c v))) first)
