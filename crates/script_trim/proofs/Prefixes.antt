-- The first steps of a block, and the one after them.
use Rattle.std.proofs.Common.{◌≡◌, ◌⊎◌, ℕ, zero, suc, ◌+◌, ◌<◌, List, [], ◌∷◌, ◌++◌, Some, None, Ok, Err, inl, inr}
use Rattle.std.proofs.Common.{take, refl, sym, subst, arith, length, append_assoc}
use Rattle.std.specs.Prelude.{flat_map, slice_get, Result}
use Rattle.std.proofs.lemmas.List.{append-nil}
use Rattle.std.proofs.lemmas.Option.{slice_get_within}
use Rattle.term_core.specs.Tree.{Tree}
use Rattle.spec_core.specs.declared.records.Spec.{Spec}
use Rattle.clause_core.specs.declared.answers.Children.{Children}
use Rattle.clause_core.specs.declared.answers.Why.{Why}
use Rattle.clause_core.specs.declared.answers.Why.TheVariants.{NoSuchNode}
use Rattle.clause_core.specs.declared.clauses.Clause.{Clause}
use Rattle.clause_core.specs.declared.steps.Step.{Step}
use Rattle.clause_core.specs.declared.steps.Step.TheVariants.{Subsume, Hyp}
use Rattle.clause_core.specs.Referred.{NodeAt}
use Rattle.acceptance.specs.Blocks.{clauses_of, StepMakes, StepsMake}

-- the node that the step refers to, if it refers to one, has a number below this
abbrev pub RefersBelow : ℕ → Step → Type 0
RefersBelow n (Subsume k terms) = k < n
RefersBelow n (Hyp k terms place left) = k < n
RefersBelow n step = Unit {0}

-- if something is made the condition is met
pub met : {P : Type 0} {S : P → Type 0} (m : Children) (why : Why) → ((p : P) × S p) ⊎
    ((P → ⊥) × (◌≡◌ {A = Result Children Why} (Ok m) (Err why))) → P
met m why (inl h) = h.0
met m why (inr h) = absurd (let e : Ok m ≡ Err why = h.1 in cc)

module _ (above : Tree → Tree → Type 0) (spec : Spec) (usable : ℕ → Type 0) where
  pub steps_take :
      (nodes : List Clause) (k : ℕ) (steps : List Step) (made : List Children) →
      StepsMake above spec usable nodes k steps made → (n : ℕ) →
      StepsMake above spec usable nodes k (take n steps) (take n made)
  steps_take nodes k [] [] p zero = tt
  steps_take nodes k [] [] p (suc n) = tt
  steps_take nodes k [] (m ∷ made) p n = absurd p
  steps_take nodes k (s ∷ steps) [] p n = absurd p
  steps_take nodes k (s ∷ steps) (m ∷ made) p zero = tt
  steps_take nodes k (s ∷ steps) (m ∷ made) p (suc n) =
      (p.0, steps_take (nodes ++ clauses_of m) (suc k) steps made p.1 n)

  -- the step at a place makes something over the nodes that the steps before it make
  pub steps_at :
      (nodes : List Clause) (k : ℕ) (steps : List Step) (made : List Children) →
      StepsMake above spec usable nodes k steps made → (n : ℕ) (step : Step) → slice_get steps n ≡ Some step →
      (m : Children) × (slice_get made n ≡ Some m) × StepMakes above spec usable
      (nodes ++ flat_map clauses_of (take n made)) (k + n) step m
  steps_at nodes k [] made p n step at = absurd (let e : None ≡ Some step = at in cc)
  steps_at nodes k (s ∷ steps) [] p n step at = absurd p
  steps_at nodes k (s ∷ steps) (m ∷ made) p zero step at =
      let e : Some s ≡ Some step = at in
      let h : s ≡ step = cc in
      let n : nodes ≡ nodes ++ [] = sym (append-nil nodes) in
      let z : k ≡ k + 0 = omega arith in (
        m,
        refl,
        subst (λ x. StepMakes above spec usable (nodes ++ []) x step m) z
            (subst (λ x. StepMakes above spec usable x k step m) n
            (subst (λ x. StepMakes above spec usable nodes k x m) h p.0)),
      )
  steps_at nodes k (s ∷ steps) (m ∷ made) p (suc n) step at =
      let r = steps_at (nodes ++ clauses_of m) (suc k) steps made p.1 n step at in
      let a : (nodes ++ clauses_of m) ++ flat_map clauses_of (take n made) ≡ nodes ++
      (clauses_of m ++ flat_map clauses_of (take n made)) =
      append_assoc nodes (clauses_of m) (flat_map clauses_of (take n made)) in
      let z : suc k + n ≡ k + suc n = omega arith in (
        r.0,
        r.1,
        subst (λ x. StepMakes above spec usable x (k + suc n) step r.0) a
            (subst (λ x. StepMakes above spec usable ((nodes ++ clauses_of m) ++ flat_map clauses_of (take n made)) x
            step r.0) z r.2),
      )

  -- a step that makes something refers to a node that is there
  pub refers_below :
      (nodes : List Clause) (k : ℕ) (step : Step) (m : Children) → StepMakes above spec usable nodes k step m →
      RefersBelow (length nodes) step
  refers_below nodes k (Subsume j terms) m p =
      let node : NodeAt nodes j = met m NoSuchNode p.says in slice_get_within nodes j node.clause node.is
  refers_below nodes k (Hyp j terms place left) m p =
      let node : NodeAt nodes j = met m NoSuchNode p.says in slice_get_within nodes j node.clause node.is
  refers_below nodes k step m p = tt
