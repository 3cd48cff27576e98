-- A start has one block at most, and a goal has one first proof or none.
use Rattle.std.proofs.Common.{◌≡◌, ℕ, List, [], ◌∷◌}
use Rattle.std.specs.Prelude.{Option, Ok}
use Rattle.std.specs.List.{AllByRecursion}
use Rattle.term_core.specs.Tree.{Tree}
use Rattle.spec_core.specs.declared.records.Goal.{Goal}
use Rattle.spec_core.specs.declared.records.Spec.{Spec}
use Rattle.spec_core.specs.WellSorted.{IsWellSorted}
use Rattle.clause_core.specs.declared.clauses.Clause.{Clause}
use Rattle.clause_core.specs.declared.steps.Step.{Step}
use Rattle.clause_core.specs.StepLaws.{OneAnswer}
use Rattle.clause_core.specs.Tidied.{goal_clause}
use Rattle.routine_proof.specs.declared.moves.Move.{Move}
use Rattle.routine_proof.specs.Blocks.{IsChosen, root}
use Rattle.routine_proof.specs.Entries.{lemma_goals}
use Rattle.routine_proof.specs.Routine.{Start, starts, candidates, makes, IsRoutine, IsProof, IsFirstProof}
use Rattle.routine_proof.specs.Ways.{Node}
use Rattle.routine_proof.proofs.Blocks.{one_chosen, one_run}
use Rattle.routine_proof.proofs.Choices.{SaysOne}
use Rattle.routine_proof.proofs.DeterminedCandidates.{candidates_determined}
use Rattle.routine_proof.proofs.Firsts.{HasOne, is_first_one}

module _
    (above : Tree → Tree → Type 0) (answer : OneAnswer above)
    (spec : Spec) (fine : IsWellSorted spec) (lemmas : List ℕ)
  where
    pub makes_one : SaysOne (makes above spec lemmas)
    makes_one nodes c step a b p q =
        let e : Ok a ≡ Ok b = answer spec lemmas nodes c step (Ok a) (Ok b) fine p q in
        cc

    -- a node has at most one chosen move
    pub chosen_one :
        (start : Start) (nodes : List Node) (k : ℕ) (node : Node) (a b : Move) →
        let list = candidates spec (lemma_goals spec lemmas) start in
        IsChosen (makes above spec lemmas) list nodes k node a →
        IsChosen (makes above spec lemmas) list nodes k node b → a ≡ b
    chosen_one start nodes k node a b p q =
        one_chosen (makes above spec lemmas) (candidates spec (lemma_goals spec lemmas) start)
        makes_one (candidates_determined spec (lemma_goals spec lemmas) start) nodes k node a b p q

    pub routine_one :
        (goal : Clause) (start : Start) (a b : List Step) →
        IsRoutine above spec lemmas goal start a → IsRoutine above spec lemmas goal start b → a ≡ b
    routine_one goal start a b p q =
        one_run (makes above spec lemmas) (candidates spec (lemma_goals spec lemmas) start)
        makes_one (candidates_determined spec (lemma_goals spec lemmas) start)
        (root goal ∷ []) 0 a b p q

    module _ (goal : Goal) (most : ℕ) where
      each_one :
          (list : List Start) → AllByRecursion (HasOne (IsProof above spec lemmas goal most)) list
      each_one [] = tt
      each_one (start ∷ list) =
          (λ a b p q. routine_one (goal_clause goal) start a b p.routine q.routine, each_one list)

      pub first_proof_one :
          (a b : Option (List Step)) →
          IsFirstProof above spec lemmas goal most a →
          IsFirstProof above spec lemmas goal most b → a ≡ b
      first_proof_one a b p q =
          is_first_one (IsProof above spec lemmas goal most) (starts (goal_clause goal))
          (each_one (starts (goal_clause goal))) a b p q
