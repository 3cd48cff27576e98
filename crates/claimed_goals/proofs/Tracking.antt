-- The goals that claims are on, with one claim more.
use Rattle.std.proofs.Common.{◌≡◌, ◌⊎◌, ℕ, zero, suc, ◌<◌, List, [], ◌∷◌, ◌++◌, Bool, true, false, inl, inr, refl, sym}
use Rattle.std.proofs.Common.{◌∙◌, ap, subst, arith, length, set, get_or, get_or-set_same, get_or-set_other}
use Rattle.std.proofs.Common.{length-set}
use Rattle.std.specs.Prelude.{◌↔◌, Some, Contains, IsTrue, slice_get}
use Rattle.std.proofs.lemmas.List.Elements.{Contains-append_left, Contains-append_right, Contains-append_cases}
use Rattle.spec_core.specs.declared.records.Goal.{Goal}
use Rattle.spec_core.specs.declared.records.Spec.{Spec}
use Rattle.spec_core.specs.WellSorted.{IsWellSorted}
use Rattle.clause_core.specs.declared.reports.Claim.{Claim}
use Rattle.clause_core.specs.declared.reports.Outcome.{Outcome}
use Rattle.clause_core.specs.declared.reports.Outcome.TheVariants.{Proved, Refuted, Open}
use Rattle.clause_core.specs.declared.steps.Block.{Block}
use Rattle.clause_core.proofs.OneReferred.{one_get}
use Rattle.acceptance.specs.Claims.{IsClaimed, IsProvedBy, SaysProved, ProvedBefore}
use Rattle.claimed_goals.specs.declared.goals.ClaimedGoals.{ClaimedGoals}
use Rattle.claimed_goals.specs.Tracking.{IsNumberOf, AreProved, Tracks}

claimed_more : (name : List ℕ) (before : List Claim) (claim : Claim) → IsClaimed name before →
    IsClaimed name (before ++ claim ∷ [])
claimed_more name [] claim h = elim h [ ]
claimed_more name (c ∷ before) claim (inl h) = inl h
claimed_more name (c ∷ before) claim (inr h) = inr (claimed_more name before claim h)

claimed_last : (name : List ℕ) (before : List Claim) (claim : Claim) → claim.goal ≡ name →
    IsClaimed name (before ++ claim ∷ [])
claimed_last name [] claim is = inl is
claimed_last name (c ∷ before) claim is = inr (claimed_last name before claim is)

claimed_cases : (name : List ℕ) (before : List Claim) (claim : Claim) → IsClaimed name (before ++ claim ∷ []) →
    IsClaimed name before ⊎ (claim.goal ≡ name)
claimed_cases name [] claim (inl h) = inr h
claimed_cases name [] claim (inr h) = absurd h
claimed_cases name (c ∷ before) claim (inl h) = inl (inl h)
claimed_cases name (c ∷ before) claim (inr h) =
    elim (claimed_cases name before claim h) [ inl p ↦ inl (inr p) | inr p ↦ inr p ]

proved_more : (name : List ℕ) (before : List Claim) (claim : Claim) → IsProvedBy name before →
    IsProvedBy name (before ++ claim ∷ [])
proved_more name [] claim h = elim h [ ]
proved_more name (c ∷ before) claim (inl h) = inl h
proved_more name (c ∷ before) claim (inr h) = inr (proved_more name before claim h)

proved_last : (name : List ℕ) (before : List Claim) (claim : Claim) →
    (claim.goal ≡ name) × SaysProved claim.outcome → IsProvedBy name (before ++ claim ∷ [])
proved_last name [] claim is = inl is
proved_last name (c ∷ before) claim is = inr (proved_last name before claim is)

proved_cases : (name : List ℕ) (before : List Claim) (claim : Claim) → IsProvedBy name (before ++ claim ∷ []) →
    IsProvedBy name before ⊎ ((claim.goal ≡ name) × SaysProved claim.outcome)
proved_cases name [] claim (inl h) = inr h
proved_cases name [] claim (inr h) = absurd h
proved_cases name (c ∷ before) claim (inl h) = inl (inl h)
proved_cases name (c ∷ before) claim (inr h) =
    elim (proved_cases name before claim h) [ inl p ↦ inl (inr p) | inr p ↦ inr p ]

equal_or_not : (j k : ℕ) → (j ≡ k) ⊎ (j ≡ k → ⊥)
equal_or_not j k = elim (less_or_more j k) [
  | inl l ↦ inr (λ e. omega (arith, l, e))
  | inr h ↦ elim h [ inl e ↦ inl e | inr l ↦ inr (λ e. omega (arith, l, e)) ]
]
  where
    less_or_more : (j k : ℕ) → (j < k) ⊎ ((j ≡ k) ⊎ (k < j))
    less_or_more j k = grind arith

-- what proves nothing
pub proves_not : (outcome : Outcome) → ((block : Block) → outcome ≡ Proved block → ⊥) → SaysProved outcome → ⊥
proves_not (Proved block) not h = not block refl
proves_not (Refuted index values) not h = h
proves_not (Open budget) not h = h

module _ (spec : Spec) where
  module _ (fine : IsWellSorted spec) (before : List Claim) (claim : Claim) (number : ℕ)
      (is : IsNumberOf spec claim.goal number) where
    -- a goal with this number has the claim's name, and one of the name this number
    its_name : (goal : Goal) → slice_get spec.goals number ≡ Some goal → claim.goal ≡ goal.name
    its_name goal at =
        sym is.2 ∙ ap (λ (g : Goal). g.name) (one_get spec.goals number number is.0 goal is.1 at refl)

    its_number : (k : ℕ) (goal : Goal) → slice_get spec.goals k ≡ Some goal → claim.goal ≡ goal.name →
        number ≡ k
    its_number k goal at named = fine.names number k is.0 goal is.1 at (is.2 ∙ named)

    flag_more : (flags : List Bool) → number < length flags →
        ((k : ℕ) (goal : Goal) → slice_get spec.goals k ≡ Some goal →
        IsTrue (get_or flags k false) ↔ IsClaimed goal.name before) → (k : ℕ) (goal : Goal) →
        slice_get spec.goals k ≡ Some goal →
        IsTrue (get_or (set flags number true) k false) ↔ IsClaimed goal.name (before ++ claim ∷ [])
    flag_more flags lt old k goal at = elim (equal_or_not number k) [ inl e ↦ here e | inr n ↦ elsewhere n ]
      where
        here :
            number ≡ k →
            IsTrue (get_or (set flags number true) k false) ↔ IsClaimed goal.name (before ++ claim ∷ [])
        here e =
            let flag : get_or (set flags number true) k false ≡ true =
            subst (λ j. get_or (set flags number true) j false ≡ true) e
            (get_or-set_same flags number true false lt) in
            let at_number = subst (λ j. slice_get spec.goals j ≡ Some goal) (sym e) at in
            (λ h. claimed_last goal.name before claim (its_name goal at_number), λ h. flag)

        elsewhere :
            (number ≡ k → ⊥) →
            IsTrue (get_or (set flags number true) k false) ↔ IsClaimed goal.name (before ++ claim ∷ [])
        elsewhere n =
            let flag : get_or (set flags number true) k false ≡ get_or flags k false =
            get_or-set_other flags number k true false (λ e. n (sym e)) in (
              λ h. claimed_more goal.name before claim ((old k goal at).0 (sym flag ∙ h)),
              λ h.
                  flag
                  ∙ (old k goal at).1
                  (elim (claimed_cases goal.name before claim h)
                  [ inl p ↦ p | inr p ↦ absurd (n (its_number k goal at p)) ]),
            )

    -- the claim proves its goal
    pub numbers_more : (numbers : List ℕ) → SaysProved claim.outcome → AreProved spec before numbers →
        AreProved spec (before ++ claim ∷ []) (numbers ++ number ∷ [])
    numbers_more numbers proves old k = (there, back)
      where
        there : Contains (numbers ++ number ∷ []) k → ProvedBefore spec (before ++ claim ∷ []) k
        there h = elim (Contains-append_cases numbers (number ∷ []) k h) [
          | inl p ↦ (let q = (old k).0 p in (q.0, q.1, proved_more q.0.name before claim q.2))
          | inr p ↦ (
              let e : number ≡ k = only k p in (
                is.0,
                subst (λ j. slice_get spec.goals j ≡ Some is.0) e is.1,
                proved_last is.0.name before claim
                    (sym is.2, proves),
              )
              )
        ]
          where
            only : (k : ℕ) → Contains (number ∷ []) k → number ≡ k
            only k (zero, lt, e) = e
            only k (suc j, lt, e) = absurd (omega (arith, lt))

        back : ProvedBefore spec (before ++ claim ∷ []) k → Contains (numbers ++ number ∷ []) k
        back (goal, at, h) = elim (proved_cases goal.name before claim h) [
          | inl p ↦ Contains-append_left numbers (number ∷ []) k ((old k).1 (goal, at, p))
          | inr p ↦ Contains-append_right numbers (number ∷ []) k (0, omega arith, its_number k goal at p.0)
        ]

    -- it doesn't
    pub numbers_stay : (numbers : List ℕ) → (SaysProved claim.outcome → ⊥) → AreProved spec before numbers →
        AreProved spec (before ++ claim ∷ []) numbers
    numbers_stay numbers not old k =
        (λ h. let q = (old k).0 h in (q.0, q.1, proved_more q.0.name before claim q.2), back)
      where
        back : ProvedBefore spec (before ++ claim ∷ []) k → Contains numbers k
        back (goal, at, h) =
            elim (proved_cases goal.name before claim h)
            [ inl p ↦ (old k).1 (goal, at, p) | inr p ↦ absurd (not p.1) ]

    pub tracks_more : (old new : ClaimedGoals) → Tracks spec before old → number < length old.claimed.items →
        new.claimed.items ≡ set old.claimed.items number true →
        AreProved spec (before ++ claim ∷ []) new.proved.items → Tracks spec (before ++ claim ∷ []) new
    tracks_more old new t lt flags numbers = record {
      long = ap length flags ∙ length-set old.claimed.items number true ∙ t.long;
      claimed =
          subst (λ fs. (k : ℕ) (goal : Goal) → slice_get spec.goals k ≡ Some goal →
          IsTrue (get_or fs k false) ↔ IsClaimed goal.name (before ++ claim ∷ [])) (sym flags)
          (flag_more old.claimed.items lt t.claimed);
      proved = numbers;
    }
