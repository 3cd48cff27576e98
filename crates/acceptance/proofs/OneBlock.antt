-- The steps of a block make one thing, and if they do no step is refused.
use Rattle.std.proofs.Common.{◌≡◌, ℕ, zero, suc, ◌+◌, List, [], ◌∷◌, ◌++◌, Some, None, take, inl, inr, refl, sym, ◌∙◌}
use Rattle.std.proofs.Common.{subst, arith, append_assoc}
use Rattle.std.specs.Prelude.{Ok, Err, flat_map, slice_get}
use Rattle.std.proofs.lemmas.List.{append-nil}
use Rattle.term_core.specs.Tree.{Tree}
use Rattle.spec_core.specs.declared.records.Spec.{Spec}
use Rattle.spec_core.specs.WellSorted.{IsWellSorted}
use Rattle.clause_core.specs.declared.clauses.Clause.{Clause}
use Rattle.clause_core.specs.declared.steps.Step.{Step}
use Rattle.clause_core.specs.declared.answers.Children.{Children}
use Rattle.clause_core.specs.declared.answers.Why.{Why}
use Rattle.clause_core.specs.ClauseLaws.{OneRelation}
use Rattle.clause_core.specs.Says.{Says}
use Rattle.clause_core.specs.Steps.{row_of}
use Rattle.clause_core.proofs.OneAnswer.{says_one}
use Rattle.clause_core.proofs.OneStep.{step_one}
use Rattle.clause_core.proofs.OneReferred.{one_get}
use Rattle.acceptance.specs.Blocks.{clauses_of, nodes_of, StepMakes, StepsMake}
use Rattle.acceptance.specs.StepRefusals.{IsRefused, StepIsRefused}

module _ (above : Tree → Tree → Type 0) (one : OneRelation above) (spec : Spec) (fine : IsWellSorted spec)
    (usable : ℕ → Type 0) where
  pub made_one : (nodes : List Clause) (k : ℕ) (step : Step) (m n : Children) →
      StepMakes above spec usable nodes k step m → StepMakes above spec usable nodes k step n → m ≡ n
  made_one nodes k step m n p q =
      let e : p.clause ≡ q.clause = one_get nodes k k p.clause q.clause p.is q.is refl in
      let s : Says above p.clause nodes (row_of spec usable nodes p.clause step) (Ok n) = subst
      (λ c. Says above c nodes (row_of spec usable nodes c step) (Ok n)) (sym e) q.says in
      let r : Ok m ≡ Ok n = says_one above one p.clause nodes _ _
      (step_one spec fine p.clause usable nodes step) (Ok m) (Ok n) p.says s in
      cc

  -- the steps make one thing
  pub steps_one : (nodes : List Clause) (k : ℕ) (steps : List Step) (ms ns : List Children) →
      StepsMake above spec usable nodes k steps ms → StepsMake above spec usable nodes k steps ns → ms ≡ ns
  steps_one nodes k [] [] [] p q = refl
  steps_one nodes k [] [] (n ∷ ns) p q = absurd q
  steps_one nodes k [] (m ∷ ms) ns p q = absurd p
  steps_one nodes k (step ∷ steps) [] ns p q = absurd p
  steps_one nodes k (step ∷ steps) (m ∷ ms) [] p q = absurd q
  steps_one nodes k (step ∷ steps) (m ∷ ms) (n ∷ ns) p q =
      let e : m ≡ n = made_one nodes k step m n p.0 q.0 in
      let r : ms ≡ ns = steps_one (nodes ++ clauses_of m) (suc k) steps ms ns p.1
      (subst (λ x. StepsMake above spec usable (nodes ++ clauses_of x) (suc k) steps ns) (sym e) q.1) in
      λ i. e i ∷ r i

  -- a step after those that make something makes something too, over the nodes that these make
  makes_at : (nodes : List Clause) (k : ℕ) (steps : List Step) (ms : List Children) →
      StepsMake above spec usable nodes k steps ms → (j : ℕ) (step : Step) → slice_get steps j ≡ Some step →
      (ns : List Children) → StepsMake above spec usable nodes k (take j steps) ns →
      (m : Children) × StepMakes above spec usable (nodes ++ flat_map clauses_of ns) (k + j) step m
  makes_at nodes k [] ms p j step at ns q = absurd (let e : None ≡ Some step = at in cc)
  makes_at nodes k (s ∷ steps) [] p j step at ns q = absurd p
  makes_at nodes k (s ∷ steps) (m ∷ ms) p zero step at [] q =
      let e : Some s ≡ Some step = at in
      let h : s ≡ step = cc in
      let n : nodes ≡ nodes ++ [] = sym (append-nil nodes) in
      let z : k ≡ k + 0 = omega arith in (
        m,
        subst (λ x. StepMakes above spec usable (nodes ++ []) x step m) z
            (subst (λ x. StepMakes above spec usable x k step m) n
            (subst (λ x. StepMakes above spec usable nodes k x m) h p.0)),
      )
  makes_at nodes k (s ∷ steps) (m ∷ ms) p zero step at (n ∷ ns) q = absurd q
  makes_at nodes k (s ∷ steps) (m ∷ ms) p (suc j) step at [] q = absurd q
  makes_at nodes k (s ∷ steps) (m ∷ ms) p (suc j) step at (n ∷ ns) q =
      let e : m ≡ n = made_one nodes k s m n p.0 q.0 in
      let r = makes_at (nodes ++ clauses_of n) (suc k) steps ms
      (subst (λ x. StepsMake above spec usable (nodes ++ clauses_of x) (suc k) steps ms) e p.1) j step at ns q.1 in
      let a : (nodes ++ clauses_of n) ++ flat_map clauses_of ns ≡ nodes
      ++ (clauses_of n ++ flat_map clauses_of ns) = append_assoc nodes (clauses_of n) (flat_map clauses_of ns) in
      let z : suc k + j ≡ k + suc j = omega arith in (
        r.0,
        subst (λ x. StepMakes above spec usable x (k + suc j) step r.0) a
            (subst (λ x. StepMakes above spec usable ((nodes ++ clauses_of n) ++ flat_map clauses_of ns) x step
            r.0) z r.1),
      )

  pub not_refused : (nodes : List Clause) (k : ℕ) (step : Step) (m : Children) (why : Why) →
      StepMakes above spec usable nodes k step m → IsRefused above spec usable nodes k step why → ⊥
  not_refused nodes k step m why p (inl q) = let e : Some p.clause ≡ None = sym p.is ∙ q.0 in cc
  not_refused nodes k step m why p (inr (c, at, says)) =
      let e : p.clause ≡ c = one_get nodes k k p.clause c p.is at refl in
      let s : Says above p.clause nodes (row_of spec usable nodes p.clause step) (Err why) = subst
      (λ x. Says above x nodes (row_of spec usable nodes x step) (Err why)) (sym e) says in
      let r : Ok m ≡ Err why = says_one above one p.clause nodes _ _
      (step_one spec fine p.clause usable nodes step) (Ok m) (Err why) p.says s in
      cc

  -- if all steps make something none is refused
  pub none_refused : (start : Clause) (steps : List Step) (ms : List Children) →
      StepsMake above spec usable (start ∷ []) 0 steps ms → (k : ℕ) (why : Why) →
      StepIsRefused above spec usable start steps k why → ⊥
  none_refused start steps ms p k why (step, ns, at, q, r) =
      let m = makes_at (start ∷ []) 0 steps ms p k step at ns q in
      let z : 0 + k ≡ k = omega arith in
      not_refused (nodes_of start ns) k step m.0 why
      (subst (λ x. StepMakes above spec usable (nodes_of start ns) x step m.0) z m.1) r

  pub one_reason : (nodes : List Clause) (k : ℕ) (step : Step) (why reason : Why) →
      IsRefused above spec usable nodes k step why → IsRefused above spec usable nodes k step reason → why ≡ reason
  one_reason nodes k step why reason (inl a) (inl b) = a.1 ∙ sym b.1
  one_reason nodes k step why reason (inl a) (inr b) = absurd (let q : Some b.0 ≡ None = sym b.1 ∙ a.0 in cc)
  one_reason nodes k step why reason (inr a) (inl b) = absurd (let q : Some a.0 ≡ None = sym a.1 ∙ b.0 in cc)
  one_reason nodes k step why reason (inr a) (inr b) =
      let e : a.0 ≡ b.0 = one_get nodes k k a.0 b.0 a.1 b.1 refl in
      let s : Says above a.0 nodes (row_of spec usable nodes a.0 step) (Err reason) = subst
      (λ x. Says above x nodes (row_of spec usable nodes x step) (Err reason)) (sym e) b.2 in
      let r : Err why ≡ Err reason = says_one above one a.0 nodes _ _ (step_one spec fine a.0 usable nodes step)
      (Err why) (Err reason) a.2 s in
      cc

  -- a step is refused for one reason
  pub refused_one : (start : Clause) (steps : List Step) (k : ℕ) (why reason : Why) →
      StepIsRefused above spec usable start steps k why → StepIsRefused above spec usable start steps k reason →
      why ≡ reason
  refused_one start steps k why reason (step, ms, at, p, r) (other, ns, same, q, s) =
      let e : ms ≡ ns = steps_one (start ∷ []) 0 (take k steps) ms ns p q in
      let h : step ≡ other = one_get steps k k step other at same refl in
      one_reason (nodes_of start ns) k step why reason
      (subst (λ x. IsRefused above spec usable (nodes_of start x) k step why) e r)
      (subst (λ x. IsRefused above spec usable (nodes_of start ns) k x reason) (sym h) s)
