-- The stuck nodes of a goal, from start to start.
use Rattle.std.proofs.Common.{◌≡◌, ℕ, List, [], ◌∷◌, ◌++◌, map, refl, sym, subst}
use Rattle.std.specs.List.{AllByRecursion}
use Rattle.term_core.specs.Tree.{Tree}
use Rattle.term_core.proofs.Items.{all_append}
use Rattle.spec_core.specs.declared.records.Goal.{Goal}
use Rattle.spec_core.specs.declared.records.Spec.{Spec}
use Rattle.clause_core.specs.Tidied.{goal_clause}
use Rattle.routine_proof.specs.Routine.{Start}
use Rattle.proof_search.specs.declared.stopping.StuckStart.{StuckStart}
use Rattle.proof_search.specs.declared.stuck.Stuck.{Stuck}
use Rattle.proof_search.specs.Bounding.{IsStart}
use Rattle.proof_search.specs.Stuck.{IsStuckFrom, IsStuck, AreStuck, AreStuckClauses}
use Rattle.proof_search.specs.Stuck.{IsStuckStart, AreStuckStarts}

module _ (above : Tree → Tree → Type 0) (spec : Spec) (lemmas : List ℕ) (goal : Goal) where
  from_start :
      (start : Start) → IsStart (goal_clause goal) start → (stuck : List Stuck) →
      AllByRecursion (IsStuckFrom above spec lemmas start (goal_clause goal)) stuck →
      AreStuck above spec lemmas goal stuck
  from_start start is [] all = tt
  from_start start is (s ∷ stuck) all = ((start, is, all.0), from_start start is stuck all.1)

  -- those that a walk of a setting meets
  pub stuck_from :
      (its : Spec) (numbers : List ℕ) → its ≡ spec → numbers ≡ lemmas → (start : Start) →
      IsStart (goal_clause goal) start → (stuck : List Stuck) →
      AllByRecursion (IsStuckFrom above its numbers start (goal_clause goal)) stuck →
      AreStuck above spec lemmas goal stuck
  stuck_from its numbers e f start is stuck all =
      from_start start is stuck
      (subst
      (λ (p : Spec × List ℕ).
      AllByRecursion (IsStuckFrom above p.0 p.1 start (goal_clause goal)) stuck)
      (λ i. (e i, f i)) all)

  -- those that a walk of a setting meets are such nodes from its start
  pub start_stuck :
      (its : Spec) (numbers : List ℕ) → its ≡ spec → numbers ≡ lemmas → (start : Start) →
      (stuck : List Stuck) →
      AllByRecursion (IsStuckFrom above its numbers start (goal_clause goal)) stuck →
      AllByRecursion (IsStuckFrom above spec lemmas start (goal_clause goal)) stuck
  start_stuck its numbers e f start stuck all =
      subst
      (λ (p : Spec × List ℕ).
      AllByRecursion (IsStuckFrom above p.0 p.1 start (goal_clause goal)) stuck)
      (λ i. (e i, f i)) all

  pub more_starts :
      (some : List StuckStart) (one : StuckStart) (all : List StuckStart) →
      AreStuckStarts above spec lemmas goal some → IsStuckStart above spec lemmas goal one →
      all ≡ some ++ one ∷ [] → AreStuckStarts above spec lemmas goal all
  more_starts some one all are is e =
      subst (AreStuckStarts above spec lemmas goal) (sym e)
      (all_append (IsStuckStart above spec lemmas goal) some (one ∷ []) are (is, tt))

  pub stuck_more :
      (some more all : List Stuck) → AreStuck above spec lemmas goal some →
      AreStuck above spec lemmas goal more → all ≡ some ++ more →
      AreStuck above spec lemmas goal all
  stuck_more some more all are others e =
      subst (AreStuck above spec lemmas goal) (sym e)
      (all_append (IsStuck above spec lemmas goal) some more are others)

  pub stuck_clauses_are :
      (stuck : List Stuck) → AreStuck above spec lemmas goal stuck →
      AreStuckClauses above spec lemmas goal (map (λ (s : Stuck). s.clause) stuck)
  stuck_clauses_are [] all = tt
  stuck_clauses_are (s ∷ stuck) all = ((s, refl, all.0), stuck_clauses_are stuck all.1)
