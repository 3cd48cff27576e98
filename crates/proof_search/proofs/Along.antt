-- A block that is built step by step goes on as every routine block does.
use Rattle.std.proofs.Common.{◌≡◌, ℕ, suc, ◌+◌, ◌<◌, ◌≤◌, List, [], ◌∷◌, ◌++◌, Some, refl, ap, sym, ◌∙◌, subst, arith}
use Rattle.std.proofs.Common.{length, append_assoc, length-append}
use Rattle.std.specs.Prelude.{slice_get}
use Rattle.std.proofs.lemmas.List.{append-nil}
use Rattle.std.proofs.lemmas.Option.{same_Some}
use Rattle.clause_core.specs.declared.clauses.Clause.{Clause}
use Rattle.clause_core.specs.declared.steps.Step.{Step}
use Rattle.routine_proof.specs.declared.moves.Move.{Move}
use Rattle.routine_proof.specs.Blocks.{Table, clauses, IsChosen, Runs, root}
use Rattle.routine_proof.specs.Candidates.{Candidate, Gives}
use Rattle.routine_proof.specs.First.{NoneIs}
use Rattle.routine_proof.specs.Ways.{Node, born}
use Rattle.routine_proof.proofs.Blocks.{no_more}
use Rattle.routine_proof.proofs.Firsts.{none_is_first}
use Rattle.proof_search.proofs.BuiltNodes.{length_one}

module _ (says : Table) (candidates : ℕ → List Node → Node → List Candidate) where
  -- a node has at most one chosen move
  abbrev pub OneChosen : Type 0
  OneChosen =
      (nodes : List Node) (k : ℕ) (node : Node) (a b : Move) →
      IsChosen says candidates nodes k node a → IsChosen says candidates nodes k node b → a ≡ b

  -- the steps are the block of the clause
  abbrev pub IsBlockOf : Clause → List Step → Type 0
  IsBlockOf goal steps = Runs says candidates (root goal ∷ []) 0 steps

  -- the first of the steps is chosen at the node of the clause, and without steps this is the only
  -- node
  abbrev pub BegunAt : Clause → List Step → List Node → Type 0
  BegunAt goal [] nodes = nodes ≡ root goal ∷ []
  BegunAt goal (step ∷ steps) nodes =
      (move : Move) × (move.step ≡ step)
      × IsChosen says candidates (root goal ∷ []) 0 (root goal) move

  -- every block of the clause begins with the steps, and goes on from the nodes
  pub record Along (goal : Clause) (steps : List Step) (nodes : List Node) : Type 0 where
    pub begun : BegunAt goal steps nodes
    pub onward :
        (rest : List Step) → Runs says candidates nodes (length steps) rest →
        IsBlockOf goal (steps ++ rest)
    pub back :
        (all : List Step) → IsBlockOf goal all →
        (rest : List Step) × (all ≡ steps ++ rest)
        × Runs says candidates nodes (length steps) rest

  pub along_first : (goal : Clause) → Along goal [] (root goal ∷ [])
  along_first goal = record { begun = refl; onward = λ rest r. r; back = λ all r. (all, refl, r) }

  -- a block has a step for each of the nodes
  run_length :
      (nodes : List Node) (k : ℕ) (rest : List Step) → Runs says candidates nodes k rest →
      length nodes ≤ k + length rest
  run_length nodes k [] r = omega arith
  run_length nodes k (x ∷ xs) r =
      let behind = born k r.0 x r.1.made in
      let more = length-append nodes behind in
      omega (arith, run_length (nodes ++ behind) (suc k) xs r.5, more)

  module _
      (goal : Clause) (steps : List Step) (nodes : List Node) (along : Along goal steps nodes)
    where
      pub along_long :
          (most : ℕ) → most < length nodes → (all : List Step) → IsBlockOf goal all →
          most < length all
      along_long most long all r =
          let b = along.back all r in
          let e : length all ≡ length steps + length b.0 =
          ap (λ l. length l) b.1 ∙ length-append steps b.0 in
          let n : length nodes ≤ length steps + length b.0 =
          run_length nodes (length steps) b.0 b.2 in
          omega (arith, e, n, long)

      pub along_end : length nodes ≡ length steps → IsBlockOf goal steps
      along_end e = subst (IsBlockOf goal) (append-nil steps) (along.onward [] e)

      -- no block goes on from a node without a chosen move
      run_ends :
          (node : Node) (k : ℕ) (rest : List Step) → slice_get nodes k ≡ Some node →
          NoneIs (Gives (says (clauses nodes) node.clause)) (candidates k nodes node) →
          Runs says candidates nodes k rest → ⊥
      run_ends node k [] at none r = no_more says candidates nodes k node r at
      run_ends node k (x ∷ xs) at none r =
          let same : r.0 ≡ node = same_Some r.0 node (sym r.2 ∙ at) in
          none_is_first (Gives (says (clauses nodes) node.clause)) (candidates k nodes node) r.1
          none
          (subst (λ (n : Node). IsChosen says candidates nodes k n r.1) same r.3)

      pub along_none :
          (node : Node) → slice_get nodes (length steps) ≡ Some node →
          NoneIs (Gives (says (clauses nodes) node.clause)) (candidates (length steps) nodes node) →
          (all : List Step) → IsBlockOf goal all → ⊥
      along_none node at none all r =
          let b = along.back all r in
          run_ends node (length steps) b.0 at none b.2

      module _ (one : OneChosen) (node : Node) (move : Move) where
        -- the nodes after the move of node k
        abbrev after : ℕ → List Node
        after k = nodes ++ born k node move.step move.made

        -- every block takes the chosen move
        run_on :
            (k : ℕ) (rest : List Step) → slice_get nodes k ≡ Some node →
            IsChosen says candidates nodes k node move → Runs says candidates nodes k rest →
            (xs : List Step) × (rest ≡ move.step ∷ xs)
            × Runs says candidates (after k) (suc k) xs
        run_on k [] at chosen r = absurd (no_more says candidates nodes k node r at)
        run_on k (x ∷ xs) at chosen r =
            let same : r.0 ≡ node = same_Some r.0 node (sym r.2 ∙ at) in
            let its = subst (λ (n : Node). IsChosen says candidates nodes k n r.1) same r.3 in
            let moves : r.1 ≡ move = one nodes k node r.1 move its chosen in
            let step : x ≡ move.step = sym r.4 ∙ ap (λ (m : Move). m.step) moves in
            let on =
            subst
            (λ (n : Node × Move × Step).
            Runs says candidates (nodes ++ born k n.0 n.2 n.1.made) (suc k) xs)
            (λ i. (same i, moves i, step i)) r.5 in
            (xs, ap (λ y. y ∷ xs) step, on)

        begun_more :
            (ss : List Step) (more : List Node) → BegunAt goal ss nodes →
            slice_get nodes (length ss) ≡ Some node →
            IsChosen says candidates nodes (length ss) node move →
            BegunAt goal (ss ++ move.step ∷ []) more
        begun_more [] more only at chosen =
            let first = subst (λ (ns : List Node). slice_get ns 0 ≡ Some node) only at in
            let same : root goal ≡ node = same_Some (root goal) node first in (
              move,
              refl,
              subst (λ (p : List Node × Node). IsChosen says candidates p.0 0 p.1 move)
                  (λ i. (only i, sym same i)) chosen,
            )
        begun_more (s ∷ ss) more begun at chosen = begun

        pub along_more :
            slice_get nodes (length steps) ≡ Some node →
            IsChosen says candidates nodes (length steps) node move →
            Along goal (steps ++ move.step ∷ []) (after (length steps))
        along_more at chosen =
            let k = length steps in
            let long : length (steps ++ move.step ∷ []) ≡ suc k = length_one steps move.step in
            let joined = λ (rest : List Step). append_assoc steps (move.step ∷ []) rest in
            record {
              begun = begun_more steps (after k) along.begun at chosen;
              onward = λ rest r.
                  let on = subst (λ n. Runs says candidates (after k) n rest) long r in
                  subst (IsBlockOf goal) (sym (joined rest))
                  (along.onward (move.step ∷ rest) (node, move, at, chosen, refl, on));
              back = λ all r.
                  let b = along.back all r in
                  let on = run_on k b.0 at chosen b.2 in
                  let is = b.1 ∙ ap (λ l. steps ++ l) on.1 ∙ sym (joined on.0) in
                  (on.0, is, subst (λ n. Runs says candidates (after k) n on.0) (sym long) on.2);
            }
