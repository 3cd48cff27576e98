-- A block whose steps are chosen is built by the table: what is left to test are its relations.
use Rattle.std.proofs.Common.{◌≡◌, ℕ, zero, suc, ◌+◌, List, [], ◌∷◌, ◌++◌, Some, refl, ap, sym, ◌∙◌, subst, arith}
use Rattle.std.proofs.Common.{length, map, append_assoc}
use Rattle.std.specs.Prelude.{◌↔◌, flat_map, slice_get, Contains}
use Rattle.std.proofs.lemmas.Option.{none-some}
use Rattle.std.proofs.lemmas.List.{append-nil}
use Rattle.term_core.specs.Tree.{Tree}
use Rattle.spec_core.specs.declared.records.Spec.{Spec}
use Rattle.spec_core.specs.WellSorted.{IsWellSorted}
use Rattle.clause_core.specs.declared.answers.Child.{Child}
use Rattle.clause_core.specs.declared.answers.Children.{Children}
use Rattle.clause_core.specs.declared.clauses.Clause.{Clause}
use Rattle.clause_core.specs.declared.steps.Step.{Step}
use Rattle.clause_core.specs.ClauseLaws.{OneRelation}
use Rattle.clause_core.specs.Limits.{IsWithin}
use Rattle.acceptance.specs.Blocks.{clauses_of, StepsMake, Proves}
use Rattle.acceptance.specs.Strict.{AllAreAllowed}
use Rattle.acceptance.proofs.OneBlock.{steps_one}
use Rattle.routine_proof.specs.Blocks.{clauses, Runs, root}
use Rattle.routine_proof.specs.Candidates.{Candidate}
use Rattle.routine_proof.specs.Routine.{makes}
use Rattle.routine_proof.specs.Ways.{Node, born}
use Rattle.routine_proof.proofs.Blocks.{chosen_says}

pub clauses_both : (xs ys : List Node) → clauses (xs ++ ys) ≡ clauses xs ++ clauses ys
clauses_both [] ys = refl
clauses_both (x ∷ xs) ys = ap (λ l. x.clause ∷ l) (clauses_both xs ys)

born_children :
    (k : ℕ) (node : Node) (step : Step) (children : List Child) →
    map (λ (n : Node). n.clause)
    (map (λ (d : Child). record { clause = d.clause; way = node.way ++ (k, step) ∷ [] }) children)
    ≡ map (λ (d : Child). d.clause) children
born_children k node step [] = refl
born_children k node step (d ∷ children) =
    ap (λ l. d.clause ∷ l) (born_children k node step children)

-- the clauses of nodes with the children that a step makes
pub clauses_born :
    (nodes : List Node) (k : ℕ) (node : Node) (step : Step) (m : Children) →
    clauses (nodes ++ born k node step m) ≡ clauses nodes ++ clauses_of m
clauses_born nodes k node step m =
    clauses_both nodes (born k node step m)
    ∙ ap (λ l. clauses nodes ++ l) (born_children k node step m.clauses)

pub clauses_at :
    (nodes : List Node) (k : ℕ) (node : Node) →
    slice_get nodes k ≡ Some node → slice_get (clauses nodes) k ≡ Some node.clause
clauses_at [] k node at = absurd (none-some node at)
clauses_at (n ∷ nodes) zero node at =
    let e : n ≡ node = cc in
    ap (λ (m : Node). Some m.clause) e
clauses_at (n ∷ nodes) (suc k) node at = clauses_at nodes k node at

pub clauses_length : (nodes : List Node) → length (clauses nodes) ≡ length nodes
clauses_length [] = refl
clauses_length (n ∷ nodes) = ap (λ m. suc m) (clauses_length nodes)

module _ (above : Tree → Tree → Type 0) (spec : Spec) (lemmas : List ℕ) where
  -- steps from node k on make something by the table, and with what they make each node has a step
  pub record IsBuilt (nodes : List Clause) (k : ℕ) (steps : List Step) : Type 0 where
    pub made : List Children
    pub makes : StepsMake above spec (Contains lemmas) nodes k steps made
    pub finished : length (nodes ++ flat_map clauses_of made) ≡ k + length steps

  pub run_builds :
      (candidates : ℕ → List Node → Node → List Candidate) (nodes : List Node) (k : ℕ)
      (steps : List Step) →
      Runs (makes above spec lemmas) candidates nodes k steps → IsBuilt (clauses nodes) k steps
  run_builds candidates nodes k [] r = record {
    made = [];
    makes = tt;
    finished =
        let e : length (clauses nodes ++ []) ≡ length (clauses nodes) =
        ap (λ (l : List Clause). length l) (append-nil (clauses nodes)) in
        omega (arith, e, clauses_length nodes, r);
  }
  run_builds candidates nodes k (step ∷ steps) r =
      let node = r.0 in
      let m = r.1.made in
      let says = makes above spec lemmas (clauses nodes) node.clause in
      let defined : says step m =
      subst (λ (t : Step). says t m) r.4
      (chosen_says says (candidates k nodes node) r.1 r.3) in
      let rest = run_builds candidates (nodes ++ born k node step m) (suc k) steps r.5 in
      let same = clauses_born nodes k node step m in
      let along : IsBuilt (clauses nodes ++ clauses_of m) (suc k) steps =
      subst (λ cs. IsBuilt cs (suc k) steps) same rest in
      record {
        made = m ∷ along.made;
        makes = (
          record { clause = node.clause; is = clauses_at nodes k node r.2; says = defined },
          along.makes,
        );
        finished =
            let e : clauses nodes ++ (clauses_of m ++ flat_map clauses_of along.made)
            ≡ (clauses nodes ++ clauses_of m) ++ flat_map clauses_of along.made =
            sym (append_assoc (clauses nodes) (clauses_of m) (flat_map clauses_of along.made))
            in
            let long = ap (λ (l : List Clause). length l) e in
            omega (arith, along.finished, long);
      }

  -- a routine block is built
  pub block_built :
      (candidates : ℕ → List Node → Node → List Candidate) (goal : Clause) (steps : List Step) →
      Runs (makes above spec lemmas) candidates (root goal ∷ []) 0 steps →
      IsBuilt (goal ∷ []) 0 steps
  block_built candidates goal steps r = run_builds candidates (root goal ∷ []) 0 steps r

  -- so it proves its goal if and only if this is within the limits and what is made is allowed
  pub proves_by_relations :
      OneRelation above → IsWellSorted spec → (goal : Clause) (steps : List Step)
      (b : IsBuilt (goal ∷ []) 0 steps) →
      Proves above spec (Contains lemmas) goal steps ↔ (IsWithin goal × AllAreAllowed b.made)
  proves_by_relations one fine goal steps b = (
    λ p.
        let e : p.made ≡ b.made =
        steps_one above one spec fine (Contains lemmas) (goal ∷ []) 0 steps p.made b.made
        p.makes b.makes in
        (p.within, subst (λ made. AllAreAllowed made) e p.allowed),
    λ p.
        let z : 0 + length steps ≡ length steps = omega arith in
        record {
          within = p.0;
          made = b.made;
          makes = b.makes;
          finished = b.finished ∙ z;
          allowed = p.1;
        },
  )
