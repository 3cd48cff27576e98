-- Blocks and reports with one step or one claim more, at the end.
use Rattle.std.proofs.Common.{◌≡◌, ℕ, suc, ◌+◌, List, [], ◌∷◌, ◌++◌, length, sym, subst, arith, append_assoc}
use Rattle.std.specs.Prelude.{flat_map}
use Rattle.std.proofs.lemmas.List.{append-nil}
use Rattle.term_core.specs.Tree.{Tree}
use Rattle.spec_core.specs.declared.records.Spec.{Spec}
use Rattle.clause_core.specs.declared.clauses.Clause.{Clause}
use Rattle.clause_core.specs.declared.steps.Step.{Step}
use Rattle.clause_core.specs.declared.answers.Children.{Children}
use Rattle.clause_core.specs.declared.reports.Claim.{Claim}
use Rattle.acceptance.specs.Blocks.{clauses_of, StepMakes, StepsMake}
use Rattle.acceptance.specs.Accepting.{ClaimIsAccepted, ClaimsAreAccepted}

module _ (above : Tree → Tree → Type 0) (spec : Spec) where
  -- the step of the next node makes something over all nodes so far
  pub steps_longer : (usable : ℕ → Type 0) (nodes : List Clause) (k : ℕ) (steps : List Step)
      (made : List Children) → StepsMake above spec usable nodes k steps made → (step : Step) (m : Children) →
      StepMakes above spec usable (nodes ++ flat_map clauses_of made) (k + length steps) step m →
      StepsMake above spec usable nodes k (steps ++ step ∷ []) (made ++ m ∷ [])
  steps_longer usable nodes k [] [] p step m q =
      let z : k + 0 ≡ k = omega arith in (
        subst (λ n. StepMakes above spec usable nodes n step m) z
            (subst (λ ns. StepMakes above spec usable ns (k + 0) step m) (append-nil nodes) q),
        tt,
      )
  steps_longer usable nodes k [] (n ∷ made) p step m q = absurd p
  steps_longer usable nodes k (s ∷ steps) [] p step m q = absurd p
  steps_longer usable nodes k (s ∷ steps) (n ∷ made) p step m q =
      let a : nodes ++ (clauses_of n ++ flat_map clauses_of made) ≡ (nodes ++ clauses_of n)
      ++ flat_map clauses_of made = sym (append_assoc nodes (clauses_of n) (flat_map clauses_of made)) in
      let z : k + suc (length steps) ≡ suc k + length steps = omega arith in (
        p.0,
        steps_longer usable (nodes ++ clauses_of n) (suc k) steps made p.1 step m
            (subst (λ j. StepMakes above spec usable ((nodes ++ clauses_of n) ++ flat_map clauses_of made) j step
            m) z (subst (λ ns. StepMakes above spec usable ns (k + suc (length steps)) step m) a q)),
      )

  -- the next claim is accepted after all claims so far
  pub claims_longer : (budget : ℕ) (before claims : List Claim) →
      ClaimsAreAccepted above spec budget before claims → (claim : Claim) →
      ClaimIsAccepted above spec budget (before ++ claims) claim →
      ClaimsAreAccepted above spec budget before (claims ++ claim ∷ [])
  claims_longer budget before [] p claim q = (
    subst (λ cs. ClaimIsAccepted above spec budget cs claim)
        (append-nil before) q,
    tt,
  )
  claims_longer budget before (c ∷ claims) p claim q =
      let a : before ++ (c ∷ claims) ≡ (before ++ c ∷ []) ++ claims = sym (append_assoc before (c ∷ []) claims) in (
        p.0,
        claims_longer budget (before ++ c ∷ []) claims p.1 claim
            (subst (λ cs. ClaimIsAccepted above spec budget cs claim) a q),
      )
