-- If no split begins with the cover of a variable, the split at this variable has the same
-- blocks.
use Rattle.std.proofs.Common.{◌≡◌, ℕ, suc, List, [], ◌∷◌, ◌++◌, Some, inl, inr, refl, ap, sym, ◌∙◌, subst}
use Rattle.std.specs.Prelude.{slice_get, option_to_list}
use Rattle.term_core.specs.Tree.{Tree}
use Rattle.term_core.specs.declared.ids.SortId.{SortId}
use Rattle.spec_core.specs.declared.records.Goal.{Goal}
use Rattle.spec_core.specs.declared.records.Spec.{Spec}
use Rattle.spec_core.specs.WellSorted.{IsWellSorted}
use Rattle.clause_core.specs.declared.answers.Children.{Children}
use Rattle.clause_core.specs.declared.clauses.Clause.{Clause}
use Rattle.clause_core.specs.declared.steps.Step.{Step}
use Rattle.clause_core.specs.declared.steps.Step.TheVariants.{Cover}
use Rattle.clause_core.specs.StepLaws.{OneAnswer}
use Rattle.test_sets.specs.TestSets.{test_set_of}
use Rattle.routine_proof.specs.declared.moves.Move.{Move}
use Rattle.routine_proof.specs.Blocks.{Table, IsChosen, Runs, root}
use Rattle.routine_proof.specs.Candidates.{Gives, certain, each}
use Rattle.routine_proof.specs.Entries.{cover, lemma_goals}
use Rattle.routine_proof.specs.First.{FirstIs}
use Rattle.routine_proof.specs.Routine.{no_split, split, candidates, makes, IsRoutine}
use Rattle.routine_proof.specs.Ways.{Node, born}
use Rattle.routine_proof.proofs.Blocks.{chosen_says}
use Rattle.routine_proof.proofs.Choices.{same_move}
use Rattle.routine_proof.proofs.OneProofs.{chosen_one, makes_one}

-- the only candidate of a split at a variable of this sort
cover_is :
    (spec : Spec) (goal : Clause) (v : ℕ) (s : SortId) → slice_get goal.ctx v ≡ Some s →
    cover spec goal v ≡ certain (Cover (record { 0 = v }) (test_set_of spec.sig s)) ++ []
unfolding each
cover_is spec goal v s sort =
    let step = λ (t : SortId). Cover (record { 0 = v }) (test_set_of spec.sig t) in
    ap (λ o. each (option_to_list o) (λ t. certain (step t))) sort

at_root :
    (goal : Clause) (node : Node) → slice_get (root goal ∷ []) 0 ≡ Some node → node ≡ root goal
at_root goal node e = cc

module _ (says : Table) (spec : Spec) (goals : List Goal) where
  -- after node 0 the start doesn't matter
  pub later_split :
      (v : ℕ) (nodes : List Node) (k : ℕ) (steps : List Step) →
      Runs says (candidates spec goals no_split) nodes (suc k) steps →
      Runs says (candidates spec goals (split v)) nodes (suc k) steps
  later_split v nodes k [] r = r
  later_split v nodes k (s ∷ steps) r = (
    r.0,
    r.1,
    r.2,
    r.3,
    r.4,
    later_split v (nodes ++ born (suc k) r.0 s r.1.made) (suc k) steps r.5,
  )

  pub later_no_split :
      (v : ℕ) (nodes : List Node) (k : ℕ) (steps : List Step) →
      Runs says (candidates spec goals (split v)) nodes (suc k) steps →
      Runs says (candidates spec goals no_split) nodes (suc k) steps
  later_no_split v nodes k [] r = r
  later_no_split v nodes k (s ∷ steps) r = (
    r.0,
    r.1,
    r.2,
    r.3,
    r.4,
    later_no_split v (nodes ++ born (suc k) r.0 s r.1.made) (suc k) steps r.5,
  )

module _
    (above : Tree → Tree → Type 0) (answer : OneAnswer above)
    (spec : Spec) (fine : IsWellSorted spec) (lemmas : List ℕ)
    (goal : Clause) (v : ℕ) (s : SortId) (sort : slice_get goal.ctx v ≡ Some s) (move : Move)
    (step : move.step ≡ Cover (record { 0 = v }) (test_set_of spec.sig s))
    (chosen :
    IsChosen (makes above spec lemmas) (candidates spec (lemma_goals spec lemmas) no_split)
    (root goal ∷ []) 0 (root goal) move)
  where
    abbrev pub here : Step → Children → Type 0
    here = makes above spec lemmas (goal ∷ []) goal

    -- what the cover makes if no split begins with it
    its_cover : here move.step move.made
    its_cover =
        let list = candidates spec (lemma_goals spec lemmas) no_split in
        chosen_says here (list 0 (root goal ∷ []) (root goal)) move chosen

    -- the split makes what this makes
    pub only_cover : (other : Move) → FirstIs (Gives here) (cover spec goal v) other → other ≡ move
    only_cover other p =
        go (subst (λ l. FirstIs (Gives here) l other) (cover_is spec goal v s sort) p)
      where
        go :
            FirstIs (Gives here)
            (certain (Cover (record { 0 = v }) (test_set_of spec.sig s)) ++ []) other →
            other ≡ move
        go (inl g) =
            let one = makes_one above answer spec fine lemmas (goal ∷ []) goal in
            same_move here one other move (g.step ∙ sym step) g.defined its_cover
        go (inr g) = absurd g.1

    pub is_cover_chosen : FirstIs (Gives here) (cover spec goal v) move
    is_cover_chosen =
        subst (λ l. FirstIs (Gives here) l move) (sym (cover_is spec goal v s sort))
        (inl (record {
          list = [];
          answers = (refl, refl);
          step = step;
          defined = its_cover;
          meets = tt;
        }))

    -- the start without a split and the split have the same blocks
    pub to_split :
        (steps : List Step) →
        IsRoutine above spec lemmas goal no_split steps →
        IsRoutine above spec lemmas goal (split v) steps
    to_split [] r = r
    to_split (x ∷ steps) r =
        let goals = lemma_goals spec lemmas in
        let says = makes above spec lemmas in
        let list = candidates spec goals no_split in
        let node = at_root goal r.0 r.2 in
        let own : IsChosen says list (root goal ∷ []) 0 (root goal) r.1 =
        subst (λ (n : Node). IsChosen says list (root goal ∷ []) 0 n r.1) node r.3 in
        let same : r.1 ≡ move =
        chosen_one above answer spec fine lemmas no_split (root goal ∷ []) 0 (root goal)
        r.1 move own chosen in (
          root goal,
          move,
          refl,
          is_cover_chosen,
          ap (λ (m : Move). m.step) (sym same) ∙ r.4,
          later_split says spec goals v (root goal ∷ born 0 (root goal) x move.made) 0 steps
              (subst
              (λ (n : Node × Move). Runs says list (root goal ∷ born 0 n.0 x n.1.made) 1 steps)
              (λ i. (node i, same i)) r.5),
        )

    pub from_split :
        (steps : List Step) →
        IsRoutine above spec lemmas goal (split v) steps →
        IsRoutine above spec lemmas goal no_split steps
    from_split [] r = r
    from_split (x ∷ steps) r =
        let goals = lemma_goals spec lemmas in
        let says = makes above spec lemmas in
        let list = candidates spec goals (split v) in
        let node = at_root goal r.0 r.2 in
        let own : FirstIs (Gives here) (cover spec goal v) r.1 =
        subst (λ (n : Node). IsChosen says list (root goal ∷ []) 0 n r.1) node r.3 in
        let same : r.1 ≡ move = only_cover r.1 own in (
          root goal,
          move,
          refl,
          chosen,
          ap (λ (m : Move). m.step) (sym same) ∙ r.4,
          later_no_split says spec goals v (root goal ∷ born 0 (root goal) x move.made) 0 steps
              (subst
              (λ (n : Node × Move). Runs says list (root goal ∷ born 0 n.0 x n.1.made) 1 steps)
              (λ i. (node i, same i)) r.5),
        )
