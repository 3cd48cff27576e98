-- The entries by what is at hand at a node are those of the list.
use Rattle.std.proofs.Common.{◌≡◌, ℕ, zero, suc, List, [], ◌∷◌, ◌++◌, Option, Some, None, refl, ap, sym, ◌∙◌, subst}
use Rattle.std.specs.Prelude.{slice_get, option_to_list}
use Rattle.std.specs.List.{flat_map}
use Rattle.std.proofs.lemmas.List.{append-nil}
use Rattle.term_core.specs.Tree.{Tree}
use Rattle.spec_core.specs.declared.records.Goal.{Goal}
use Rattle.spec_core.specs.declared.records.Spec.{Spec}
use Rattle.clause_core.specs.declared.clauses.Clause.{Clause}
use Rattle.clause_core.proofs.OneReferred.{one_get}
use Rattle.inference_rules.specs.Answers.{clauses_of}
use Rattle.clause_places.specs.Spots.{Spot, spots}
use Rattle.routine_proof.specs.declared.moves.Move.{Move}
use Rattle.routine_proof.specs.Blocks.{clauses}
use Rattle.routine_proof.specs.Candidates.{Candidate, Gives, each}
use Rattle.routine_proof.specs.Entries.{lemma_goals, clause_at, trivials, matches, absurds, premise_decompositions}
use Rattle.routine_proof.specs.Entries.{clashes, solutions, rule_uses, conclusion_decompositions, subsumptions}
use Rattle.routine_proof.specs.Entries.{lemma_instances, hypothesis_uses, lemma_uses, case_splits, demanded_covers}
use Rattle.routine_proof.specs.Entries.{entries}
use Rattle.routine_proof.specs.First.{IsFirst}
use Rattle.routine_proof.specs.Routine.{makes}
use Rattle.routine_proof.specs.Ways.{Node, ancestors}
use Rattle.routine_proof.proofs.Built.{clauses_at}
use Rattle.proof_search.specs.declared.at.At.{At}
use Rattle.proof_search.specs.Building.{nodes_in}
use Rattle.proof_search.specs.Chosen.{ancestors_at, clause_of, subsumptions_by, lemma_instances_by, lemma_uses_by}
use Rattle.proof_search.specs.Chosen.{candidates_of, all_entries}
use Rattle.proof_search.specs.Referring.{node, goal, closings, rewritings, rewritings_at}
use Rattle.proof_search.specs.Settings.{named, lemma_goal}
use Rattle.proof_search.specs.Starting.{IsListed}
use Rattle.proof_search.specs.Taking.{IsAt, SaysAt}
use Rattle.proof_search.proofs.BuiltNodes.{nodes_clauses}
use Rattle.proof_search.proofs.ListedNodes.{ancestors_are}
use Rattle.proof_search.proofs.Walking.{each_mapped}

clause_at_number : (made : List Node) (j : ℕ) →
    clause_at made j ≡ option_to_list (slice_get (clauses made) j)
clause_at_number [] j = refl
clause_at_number (n ∷ made) zero = refl
clause_at_number (n ∷ made) (suc j) = clause_at_number made j

no_candidates : {X Y : Type 0} (xs : List X) →
    flat_map (λ (x : X). let none : List Y = [] in none) xs ≡ []
no_candidates [] = refl
no_candidates (x ∷ xs) = no_candidates xs

with_nothing : {X Y : Type 0} (f : X → List Y) (xs : List X) →
    flat_map (λ (x : X). f x ++ []) xs ≡ flat_map f xs
with_nothing f [] = refl
with_nothing f (x ∷ xs) = λ i. append-nil (f x) i ++ with_nothing f xs i

-- one clause at most may be taken first or last
exchanged : {X Y Z : Type 0} (f : Z → X → List Y) (xs : List X) (o : Option Z) →
    each xs (λ (x : X). each (option_to_list o) (λ (z : Z). f z x)) ≡ each (option_to_list o)
    (λ (z : Z). each xs (f z))
unfolding each
exchanged f xs None = no_candidates xs
exchanged f xs (Some z) = with_nothing (f z) xs ∙ sym (append-nil (flat_map (f z) xs))

module _
    (above : Tree → Tree → Type 0) (at : At) (is : IsAt at) (made : List Node) (here : Node)
    (nodes_are : clauses made ≡ clauses_of at.nodes.now)
    (listed : slice_get made at.number ≡ Some here) where
  abbrev spec : Spec
  spec = at.setting.now.spec.now

  abbrev goals : List Goal
  goals = lemma_goals at.setting.now.spec.now at.setting.now.lemmas.now

  clause_is : here.clause ≡ at.here.now
  clause_is =
      let own = clauses_at made at.number here listed in
      one_get (clauses_of at.nodes.now) at.number at.number here.clause at.here.now
      (ap (λ (cs : List Clause). slice_get cs at.number) (sym nodes_are) ∙ own) is.here refl

  clauses_are : (j : ℕ) → clause_at made j ≡ clause_of at j
  clauses_are j =
      clause_at_number made j
      ∙ ap (λ (cs : List Clause). option_to_list (slice_get cs j)) nodes_are

  abbrev closings_by : List ℕ × Clause → List Candidate
  closings_by p = closings at.here.now (goal p.0) p.1

  abbrev rewritings_by : List ℕ × Clause → List Candidate
  rewritings_by p = rewritings at.here.now (goal p.0) p.1

  instances_are :
      lemma_instances goals here.clause
      ≡ each at.setting.now.goals.items (lemma_instances_by at)
  instances_are =
      (λ i. lemma_instances goals (clause_is i))
      ∙ sym (each_mapped closings_by lemma_goal goals)
      ∙ ap (λ (ps : List (List ℕ × Clause)). each ps closings_by) (sym is.setting.goals)
      ∙ each_mapped closings_by named at.setting.now.goals.items

  uses_are : lemma_uses goals here.clause ≡ each at.setting.now.goals.items (lemma_uses_by at)
  uses_are =
      (λ i. lemma_uses goals (clause_is i))
      ∙ sym (each_mapped rewritings_by lemma_goal goals)
      ∙ ap (λ (ps : List (List ℕ × Clause)). each ps rewritings_by) (sym is.setting.goals)
      ∙ each_mapped rewritings_by named at.setting.now.goals.items

  hypotheses_are :
      hypothesis_uses made here.clause ≡ each (clause_of at 0) (rewritings at.here.now (node 0))
  hypotheses_are =
      (λ i. each (spots (clause_is i)) (λ (s : Spot).
      each (clauses_are 0 i) (λ (d : Clause). rewritings_at (node 0) d s)))
      ∙ exchanged (λ (d : Clause) (s : Spot). rewritings_at (node 0) d s) (spots at.here.now)
      (slice_get (clauses_of at.nodes.now) 0)

  module _ (numbers_are : ancestors here.way ≡ ancestors_at at) where
    subsumptions_are : subsumptions made here ≡ each (ancestors_at at) (subsumptions_by at)
    subsumptions_are = λ i.
        each (numbers_are i) (λ (j : ℕ).
        each (clauses_are j i) (λ (d : Clause). closings (clause_is i) (node j) d))

    entries_are : entries spec goals made here ≡ each all_entries (candidates_of at)
    unfolding each
    entries_are = λ i.
        trivials (clause_is i)
        ++ (matches (clause_is i)
        ++ (absurds (clause_is i)
        ++ (premise_decompositions (clause_is i)
        ++ (clashes (clause_is i)
        ++ (solutions (clause_is i)
        ++ (rule_uses spec (clause_is i)
        ++ (conclusion_decompositions (clause_is i)
        ++ (subsumptions_are i
        ++ (instances_are i
        ++ (hypotheses_are i
        ++ (uses_are i
        ++ (case_splits spec (clause_is i)
        ++ (demanded_covers spec (clause_is i) ++ [])))))))))))))

    -- the chosen step by what is at hand is that of the list
    chosen_here :
        (found : Option Move) →
        IsFirst (Gives (SaysAt above at)) (each all_entries (candidates_of at)) found →
        IsFirst
        (Gives (makes above spec at.setting.now.lemmas.now (clauses made) here.clause))
        (entries spec goals made here) found
    chosen_here found first =
        subst
        (λ (x : List Clause × Clause × List Candidate).
        IsFirst (Gives (makes above spec at.setting.now.lemmas.now x.0 x.1)) x.2 found)
        (λ i. (sym nodes_are i, sym clause_is i, sym entries_are i)) first

-- the chosen step is that of the block's list
pub chosen_listed :
    (above : Tree → Tree → Type 0) (at : At) → IsAt at → (found : Option Move) →
    IsFirst (Gives (SaysAt above at)) (each all_entries (candidates_of at)) found →
    IsListed above at.setting.now.spec.now at.setting.now.lemmas.now at.building.now at.number found
chosen_listed above at is found first = λ here listed.
    let b = at.building.now in
    let same = nodes_clauses b is.whole ∙ ap clauses_of (sym is.own) in
    chosen_here above at is (nodes_in b) here same listed (sym (ancestors_are at is here listed))
    found first
