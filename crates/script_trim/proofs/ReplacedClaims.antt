-- A report stays accepted if a proved claim gets other steps that prove its goal.
use Rattle.std.proofs.Common.{◌≡◌, ℕ, zero, suc, List, [], ◌∷◌, ◌++◌, Some, None, take, refl, sym, subst, append_assoc}
use Rattle.std.specs.Prelude.{slice_get, slice_set, ◌⊎◌}
use Rattle.std.proofs.lemmas.List.{append-nil}
use Rattle.term_core.specs.Tree.{Tree}
use Rattle.spec_core.specs.declared.records.Goal.{Goal}
use Rattle.spec_core.specs.declared.records.Spec.{Spec}
use Rattle.clause_core.specs.declared.reports.Claim.{Claim}
use Rattle.clause_core.specs.declared.reports.Outcome.{Outcome}
use Rattle.clause_core.specs.declared.reports.Outcome.TheVariants.{Proved, Refuted, Open}
use Rattle.clause_core.specs.declared.steps.Step.{Step}
use Rattle.clause_core.specs.Tidied.{goal_clause}
use Rattle.acceptance.specs.Accepting.{IsShown, ClaimIsAccepted, ClaimsAreAccepted}
use Rattle.acceptance.specs.Blocks.{Proves}
use Rattle.acceptance.specs.Claims.{IsClaimed, IsProvedBy, ProvedBefore, SaysProved}
use Rattle.script_trim.specs.Trimmed.{proves}

module _ (name : List ℕ) (s t : List Step) where
  proved_same :
      (g : List ℕ) (xs ys : List Claim) → IsProvedBy g (xs ++ proves name s ∷ ys) ≡ IsProvedBy g
      (xs ++ proves name t ∷ ys)
  proved_same g [] ys = refl
  proved_same g (x ∷ xs) ys = let r = proved_same g xs ys in λ i. ((x.goal ≡ g) × SaysProved x.outcome) ⊎ r i

  claimed_same :
      (g : List ℕ) (xs ys : List Claim) → IsClaimed g (xs ++ proves name s ∷ ys) ≡ IsClaimed g
      (xs ++ proves name t ∷ ys)
  claimed_same g [] ys = refl
  claimed_same g (x ∷ xs) ys = let r = claimed_same g xs ys in λ i. (x.goal ≡ g) ⊎ r i

  module _ (above : Tree → Tree → Type 0) (spec : Spec) (budget : ℕ) where
    usable_same : (xs ys : List Claim) → ◌≡◌ {A = ℕ → Type 0} (ProvedBefore spec (xs ++ proves name s ∷ ys))
        (ProvedBefore spec (xs ++ proves name t ∷ ys))
    usable_same xs ys =
        λ i number. (goal : Goal) × (slice_get spec.goals number ≡ Some goal) × proved_same goal.name xs ys i

    shown_moved :
        (xs ys : List Claim) (goal : Goal) (outcome : Outcome) →
        IsShown above spec budget (xs ++ proves name s ∷ ys) goal outcome →
        IsShown above spec budget (xs ++ proves name t ∷ ys) goal outcome
    shown_moved xs ys goal (Proved block) p =
        subst (λ (usable : ℕ → Type 0). Proves above spec usable (goal_clause goal) block.steps) (usable_same xs ys) p
    shown_moved xs ys goal (Refuted index values) p = p
    shown_moved xs ys goal (Open numbers) p = p

    claim_moved :
        (xs ys : List Claim) (claim : Claim) → ClaimIsAccepted above spec budget (xs ++ proves name s ∷ ys) claim →
        ClaimIsAccepted above spec budget (xs ++ proves name t ∷ ys) claim
    claim_moved xs ys claim a = record {
      goal = a.goal;
      named = a.named;
      first = λ h. a.first (subst (λ (X : Type 0). X) (sym (claimed_same claim.goal xs ys)) h);
      shown = shown_moved xs ys a.goal claim.outcome a.shown;
    }

    claims_moved :
        (xs ys claims : List Claim) → ClaimsAreAccepted above spec budget (xs ++ proves name s ∷ ys) claims →
        ClaimsAreAccepted above spec budget (xs ++ proves name t ∷ ys) claims
    claims_moved xs ys [] a = tt
    claims_moved xs ys (c ∷ claims) a =
        let e : (xs ++ proves name s ∷ ys) ++ c ∷ [] ≡ xs ++ proves name s ∷ (ys ++ c ∷ []) =
        append_assoc xs (proves name s ∷ ys) (c ∷ []) in
        let f : (xs ++ proves name t ∷ ys) ++ c ∷ [] ≡ xs ++ proves name t ∷ (ys ++ c ∷ []) =
        append_assoc xs (proves name t ∷ ys) (c ∷ []) in (
          claim_moved xs ys c a.0,
          subst (λ bs. ClaimsAreAccepted above spec budget bs claims) (sym f)
              (claims_moved xs (ys ++ c ∷ []) claims (subst (λ bs. ClaimsAreAccepted above spec budget bs claims) e
              a.1)),
        )

    -- the report with the other steps
    pub replaced :
        (before claims : List Claim) → ClaimsAreAccepted above spec budget before claims → (n : ℕ) →
        slice_get claims n ≡ Some (proves name s) → ClaimIsAccepted above spec budget (before ++ take n claims)
        (proves name t) → ClaimsAreAccepted above spec budget before (slice_set claims n (proves name t))
    replaced before [] a n at new = tt
    replaced before (c ∷ claims) a zero at new =
        let q : Some c ≡ Some (proves name s) = at in
        let e : c ≡ proves name s = cc in (
          subst (λ bs. ClaimIsAccepted above spec budget bs (proves name t)) (append-nil before) new,
          claims_moved before [] claims (subst (λ x. ClaimsAreAccepted above spec budget (before ++ x ∷ []) claims) e
              a.1),
        )
    replaced before (c ∷ claims) a (suc n) at new = (
      a.0,
      replaced (before ++ c ∷ []) claims a.1 n at (subst
          (λ bs. ClaimIsAccepted above spec budget bs (proves name t))
          (sym (append_assoc before (c ∷ []) (take n claims))) new),
    )

module _ (above : Tree → Tree → Type 0) (spec : Spec) (budget : ℕ) where
  -- each claim is accepted, after those before it
  pub accepted_at :
      (before claims : List Claim) → ClaimsAreAccepted above spec budget before claims → (n : ℕ) (claim : Claim) →
      slice_get claims n ≡ Some claim → ClaimIsAccepted above spec budget (before ++ take n claims) claim
  accepted_at before [] a n claim at = absurd (let q : None ≡ Some claim = at in cc)
  accepted_at before (c ∷ claims) a zero claim at =
      let q : Some c ≡ Some claim = at in
      let e : c ≡ claim = cc in
      subst (λ bs. ClaimIsAccepted above spec budget bs claim) (sym (append-nil before))
      (subst (λ x. ClaimIsAccepted above spec budget before x) e a.0)
  accepted_at before (c ∷ claims) a (suc n) claim at =
      subst (λ bs. ClaimIsAccepted above spec budget bs claim) (append_assoc before (c ∷ []) (take n claims))
      (accepted_at (before ++ c ∷ []) claims a.1 n claim at)
