-- Claims on the first goals, and one claim more.
use Rattle.std.proofs.Common.{◌≡◌, ℕ, zero, suc, ◌+◌, List, [], ◌∷◌, ◌++◌, Some, None, sym, subst, take, add-one}
use Rattle.std.proofs.Common.{append_assoc}
use Rattle.std.specs.Prelude.{slice_get}
use Rattle.std.proofs.lemmas.List.{append-nil}
use Rattle.spec_core.specs.declared.records.Goal.{Goal}
use Rattle.clause_core.specs.declared.reports.Claim.{Claim}
use Rattle.search_claims.specs.Claims.{AreFirstClaims, AreClaims}

module _ (IsOn : List Claim → Goal → Claim → Type 0) where
  -- a claim more on the next goal
  pub claims_more :
      (goals : List Goal) (i : ℕ) (goal : Goal) (before claims : List Claim) (claim : Claim) →
      slice_get goals i ≡ Some goal → IsOn (before ++ claims) goal claim →
      AreClaims IsOn before (take i goals) claims →
      AreClaims IsOn before (take (i + 1) goals) (claims ++ claim ∷ [])
  claims_more goals i goal before claims claim at c all =
      rw add-one (by goals i before claims at c all)
    where
      by :
          (goals : List Goal) (i : ℕ) (before claims : List Claim) → slice_get goals i ≡ Some goal →
          IsOn (before ++ claims) goal claim → AreClaims IsOn before (take i goals) claims →
          AreClaims IsOn before (take (suc i) goals) (claims ++ claim ∷ [])
      by [] i before claims at c all = absurd (let q : None ≡ Some goal = at in cc)
      by (g ∷ gs) zero before [] at c all =
          let q : Some g ≡ Some goal = at in
          let k : g ≡ goal = cc in (
            subst (λ x. IsOn x g claim) (append-nil before)
                (subst (λ x. IsOn (before ++ []) x claim) (sym k) c),
            tt,
          )
      by (g ∷ gs) zero before (d ∷ ds) at c all = absurd all
      by (g ∷ gs) (suc i) before [] at c all = absurd all
      by (g ∷ gs) (suc i) before (d ∷ ds) at c all =
          let a : before ++ (d ∷ ds) ≡ (before ++ d ∷ []) ++ ds =
          sym (append_assoc before (d ∷ []) ds) in
          (all.0, by gs i (before ++ d ∷ []) ds at (subst (λ x. IsOn x goal claim) a c) all.1)

  no_goals :
      (i : ℕ) (before : List Claim) (d : Claim) (ds : List Claim) →
      AreClaims IsOn before (take i []) (d ∷ ds) → ⊥
  no_goals zero before d ds all = all
  no_goals (suc i) before d ds all = all

  -- claims on the goals before a place are claims on the first goals
  pub first_claims :
      (goals : List Goal) (i : ℕ) (before claims : List Claim) →
      AreClaims IsOn before (take i goals) claims → AreFirstClaims IsOn before goals claims
  first_claims goals i before [] all = tt
  first_claims [] i before (d ∷ ds) all = absurd (no_goals i before d ds all)
  first_claims (g ∷ gs) zero before (d ∷ ds) all = absurd all
  first_claims (g ∷ gs) (suc i) before (d ∷ ds) all =
      (all.0, first_claims gs i (before ++ d ∷ []) ds all.1)
