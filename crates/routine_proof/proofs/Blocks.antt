-- A node has at most one chosen move, and steps that run from one place are the same.
use Rattle.std.proofs.Common.{◌≡◌, ℕ, suc, ◌<◌, List, [], ◌∷◌, ◌++◌, Some, inl, inr, refl, ap, sym, ◌∙◌, subst, arith}
use Rattle.std.proofs.Common.{length}
use Rattle.std.specs.Prelude.{slice_get}
use Rattle.std.proofs.lemmas.Option.{slice_get_within}
use Rattle.clause_core.specs.declared.answers.Children.{Children}
use Rattle.clause_core.specs.declared.steps.Step.{Step}
use Rattle.routine_proof.specs.declared.moves.Move.{Move}
use Rattle.routine_proof.specs.Blocks.{Table, clauses, IsChosen, Runs}
use Rattle.routine_proof.specs.Candidates.{Candidate, Gives}
use Rattle.routine_proof.specs.First.{FirstIs}
use Rattle.routine_proof.specs.Ways.{Node, born}
use Rattle.routine_proof.proofs.Choices.{SaysOne, AreDetermined, each_one}
use Rattle.routine_proof.proofs.Firsts.{first_one}

pub some_same : {X : Type 0} (x y : X) → Some x ≡ Some y → x ≡ y
some_same x y e = cc

-- what a chosen move makes is what the table says of its step
pub chosen_says :
    (says : Step → Children → Type 0) (cs : List Candidate) (move : Move) →
    FirstIs (Gives says) cs move → says move.step move.made
chosen_says says [] move p = absurd p
chosen_says says (c ∷ cs) move (inl p) = p.defined
chosen_says says (c ∷ cs) move (inr p) = chosen_says says cs move p.1

module _ (says : Table) (candidates : ℕ → List Node → Node → List Candidate) where
  -- if each node has its step, there is none after them
  pub no_more :
      (nodes : List Node) (k : ℕ) (node : Node) →
      length nodes ≡ k → slice_get nodes k ≡ Some node → ⊥
  no_more nodes k node l at =
      let lt : k < length nodes = slice_get_within nodes k node at in
      omega arith

  module _ (one : SaysOne says) (determined : AreDetermined candidates) where
    -- a node has at most one chosen move
    pub one_chosen :
        (nodes : List Node) (k : ℕ) (node : Node) (a b : Move) →
        IsChosen says candidates nodes k node a → IsChosen says candidates nodes k node b → a ≡ b
    one_chosen nodes k node a b p q =
        let here = says (clauses nodes) node.clause in
        let moves =
        each_one here (one (clauses nodes) node.clause)
        (candidates k nodes node) (determined k nodes node) in
        first_one (Gives here) (candidates k nodes node) moves a b p q

    -- the steps that run from one place are the same
    pub one_run :
        (nodes : List Node) (k : ℕ) (a b : List Step) →
        Runs says candidates nodes k a → Runs says candidates nodes k b → a ≡ b
    one_run nodes k [] [] p q = refl
    one_run nodes k [] (y ∷ ys) p q = absurd (no_more nodes k q.0 p q.2)
    one_run nodes k (x ∷ xs) [] p q = absurd (no_more nodes k p.0 q p.2)
    one_run nodes k (x ∷ xs) (y ∷ ys) p q =
        let node : p.0 ≡ q.0 = some_same p.0 q.0 (sym p.2 ∙ q.2) in
        let chosen : IsChosen says candidates nodes k q.0 p.1 =
        subst (λ (n : Node). IsChosen says candidates nodes k n p.1) node p.3 in
        let move : p.1 ≡ q.1 = one_chosen nodes k q.0 p.1 q.1 chosen q.3 in
        let step : x ≡ y = sym p.4 ∙ ap (λ (m : Move). m.step) move ∙ q.4 in
        let on = λ (n : Node) (m : Move) (s : Step). nodes ++ born k n s m.made in
        let along : Runs says candidates (on q.0 q.1 y) (suc k) xs =
        subst (λ (n : Node × Move × Step). Runs says candidates (on n.0 n.1 n.2) (suc k) xs)
        (λ i. (node i, move i, step i)) p.5 in
        let rest : xs ≡ ys = one_run (on q.0 q.1 y) (suc k) xs ys along q.5 in
        λ i. step i ∷ rest i
