-- A goal has one block at most on a variable.
use Rattle.std.proofs.Common.{◌≡◌, ℕ, zero, suc, ◌<◌, List, [], ◌∷◌, ◌++◌, Some, take, length, refl, ap, sym, ◌∙◌}
use Rattle.std.proofs.Common.{subst, arith}
use Rattle.std.specs.Prelude.{Ok, Contains, slice_get}
use Rattle.std.proofs.lemmas.List.{length-take, take_all}
use Rattle.term_core.specs.Tree.{Tree}
use Rattle.spec_core.specs.declared.records.Goal.{Goal}
use Rattle.spec_core.specs.declared.records.Spec.{Spec}
use Rattle.spec_core.specs.WellSorted.{IsWellSorted}
use Rattle.clause_core.specs.declared.steps.Step.{Step}
use Rattle.clause_core.specs.StepLaws.{OneAnswer}
use Rattle.clause_core.specs.Tidied.{IsTidied, goal_clause}
use Rattle.clause_core.specs.Says.{Says}
use Rattle.clause_core.specs.Steps.{row_of}
use Rattle.acceptance.specs.Blocks.{nodes_of}
use Rattle.plain_search.specs.Blocks.{IsPlainBlock}
use Rattle.plain_search.specs.Laws.{OneChoice}
use Rattle.plain_search.proofs.BlockSteps.{taken_more, nodes_more, nodes_at, at_number, first_splits, later_chosen}
use Rattle.plain_search.proofs.BlockSteps.{all_made}
use Rattle.plain_search.proofs.Following.{IsPart, whole, begun, followed}

module _ (above : Tree → Tree → Type 0) (one_choice : OneChoice above) (one_answer : OneAnswer above)
    (spec : Spec) (fine : IsWellSorted spec) (goal : Goal) (tidy : IsTidied (goal_clause goal))
    (premises : (goal_clause goal).premises ≡ []) (x : ℕ) (a b : List Step)
    (one : IsPlainBlock above spec goal x a) (other : IsPlainBlock above spec goal x b) where
  -- the first steps of the one are those of the other
  parts : (k : ℕ) → k < length a →
      IsPart above spec goal x b other (take (suc k) a) (nodes_at above spec goal x a one (suc k))
  parts zero lt =
      let t = at_number above spec goal x a one 0 lt in
      let e : goal_clause goal ≡ t.makes.clause = let q : Some (goal_clause goal) ≡ Some
      t.makes.clause = t.makes.is in cc in
      let says = subst (λ c. Says above c (goal_clause goal ∷ [])
      (row_of spec (Contains []) (goal_clause goal ∷ []) c t.step) (Ok t.made_by)) (sym e) t.makes.says in
      let p = begun above spec goal x b other one_choice one_answer fine tidy premises t.step
      (first_splits above spec goal x a one t.step t.at) t.made_by says in
      subst (λ ss. IsPart above spec goal x b other ss (nodes_at above spec goal x a one 1))
      (sym (taken_more a 0 t.step t.at))
      (subst (λ ns. IsPart above spec goal x b other (t.step ∷ []) ns)
      (sym (nodes_more (goal_clause goal) one.made 0 t.made_by t.makes_at)) p)
  parts (suc k) lt =
      let before = parts k (omega arith) in
      let first = take (suc k) a in
      let n : length first ≡ suc k = omega (arith, length-take (suc k) a) in
      let t = at_number above spec goal x a one (suc k) lt in
      let ns = nodes_at above spec goal x a one (suc k) in
      let here : slice_get ns (length first) ≡ Some t.makes.clause = ap (λ j. slice_get ns j) n ∙ t.makes.is in
      let p = followed above spec goal x b other one_choice one_answer fine tidy premises first ns before k n
      t.makes.clause here t.step t.made_by (later_chosen above spec goal x a one k t.step t.makes.clause
      t.at t.makes.is) t.makes.says in
      subst (λ ss. IsPart above spec goal x b other ss (nodes_at above spec goal x a one (suc (suc k))))
      (sym (taken_more a (suc k) t.step t.at))
      (subst (λ ms. IsPart above spec goal x b other (first ++ t.step ∷ []) ms)
      (sym (nodes_more (goal_clause goal) one.made (suc k) t.made_by t.makes_at)) p)

  pub blocks_one : a ≡ b
  blocks_one = by (length a) refl
    where
      by : (n : ℕ) → length a ≡ n → a ≡ b
      by zero e = let m = ap (λ (ss : List Step). length ss) one.is in absurd (omega (arith, m, e))
      by (suc k) e =
          let p = parts k (omega (arith, e)) in
          let all : take (suc k) a ≡ a = take_all (suc k) a (omega (arith, e)) in
          let made : take (suc k) one.made ≡ one.made = take_all (suc k) one.made
          (omega (arith, e, all_made above spec goal x a one)) in
          let long : length (nodes_at above spec goal x a one (suc k)) ≡ length a = ap
          (λ ms. length (nodes_of (goal_clause goal) ms)) made ∙ one.finished in
          sym all ∙ whole above spec goal x b other (take (suc k) a) (nodes_at above spec goal x a one (suc k))
          p (omega (arith, long, ap (λ (ss : List Step). length ss) all))
