-- An accepted report has no more claims than the specification has goals, since each is on a goal of
-- its own.
use Rattle.std.proofs.Common.{◌≡◌, ◌≢◌, ◌∙◌, ◌<◌, ◌≤◌, ◌⊎◌, ℕ, Bool, true, false, List, [], ◌∷◌, ◌++◌, Some, None, inl}
use Rattle.std.proofs.Common.{inr, refl, ap, sym, subst, arith, length}
use Rattle.std.specs.Prelude.{slice_get, ◌||◌}
use Rattle.std.specs.List.{AllByRecursion, IsDistinct, list_any}
use Rattle.std.proofs.Math.Dec.{eqb}
use Rattle.std.proofs.lemmas.Bool.{eqb-true}
use Rattle.std.proofs.lemmas.Bool.Decides.{eqb_tells}
use Rattle.std.proofs.lemmas.Map.Steps.{length-le_from_distinct_below}
use Rattle.std.proofs.lemmas.Option.{slice_get_within}
use Rattle.term_core.specs.Tree.{Tree}
use Rattle.spec_core.specs.declared.records.Goal.{Goal}
use Rattle.spec_core.specs.declared.records.Spec.{Spec}
use Rattle.clause_core.specs.declared.reports.Claim.{Claim}
use Rattle.acceptance.specs.Accepting.{ClaimsAreAccepted}
use Rattle.acceptance.specs.Claims.{IsClaimed}

claimed_more :
    (name : List ℕ) (before : List Claim) (claim : Claim) → IsClaimed name before →
    IsClaimed name (before ++ claim ∷ [])
claimed_more name [] claim is = absurd is
claimed_more name (c ∷ before) claim (inl here) = inl here
claimed_more name (c ∷ before) claim (inr there) = inr (claimed_more name before claim there)

claimed_last :
    (name : List ℕ) (before : List Claim) (claim : Claim) → claim.goal ≡ name →
    IsClaimed name (before ++ claim ∷ [])
claimed_last name [] claim is = inl is
claimed_last name (c ∷ before) claim is = inr (claimed_last name before claim is)

either : (a b : Bool) → (a || b) ≡ true → (a ≡ true) ⊎ (b ≡ true)
either true b is = inl refl
either false b is = inr is

module _ (above : Tree → Tree → Type 0) (spec : Spec) (steps : ℕ) where
  -- the numbers of the goals of accepted claims
  abbrev numbers : (before claims : List Claim) → ClaimsAreAccepted above spec steps before claims → List ℕ
  numbers before [] a = []
  numbers before (c ∷ claims) a = a.0.named.0 ∷ numbers (before ++ c ∷ []) claims a.1

  as_many :
      (before claims : List Claim) (a : ClaimsAreAccepted above spec steps before claims) →
      length (numbers before claims a) ≡ length claims
  as_many before [] a = refl
  as_many before (c ∷ claims) a =
      let others = as_many (before ++ c ∷ []) claims a.1 in
      omega (arith, others)

  are_below :
      (before claims : List Claim) (a : ClaimsAreAccepted above spec steps before claims) (q : ℕ) →
      list_any (eqb q) (numbers before claims a) ≡ true → q < length spec.goals
  are_below before [] a q is = absurd (let bad : false ≡ true = is in cc)
  are_below before (c ∷ claims) a q is =
      elim (either (eqb q a.0.named.0) (list_any (eqb q) (numbers (before ++ c ∷ []) claims a.1)) is) [
        | inl here ↦
            subst (λ n. n < length spec.goals) (sym (eqb-true q a.0.named.0 here))
            (slice_get_within spec.goals a.0.named.0 a.0.goal a.0.named.1)
        | inr there ↦ are_below (before ++ c ∷ []) claims a.1 q there
      ]

  -- a goal that is claimed before isn't among them
  not_again :
      (before claims : List Claim) (a : ClaimsAreAccepted above spec steps before claims) (q : ℕ)
      (goal : Goal) → slice_get spec.goals q ≡ Some goal → IsClaimed goal.name before →
      AllByRecursion (λ n. eqb q n ≡ false) (numbers before claims a)
  not_again before [] a q goal at is = tt
  not_again before (c ∷ claims) a q goal at is = (
    elim (eqb_tells q a.0.named.0) [
      | inl same ↦
          let both : Some goal ≡ Some a.0.goal =
          sym at ∙ ap (λ n. slice_get spec.goals n) same.1 ∙ a.0.named.1 in
          let goals : goal ≡ a.0.goal = cc in
          let names : goal.name ≡ c.goal = ap (λ (g : Goal). g.name) goals ∙ a.0.named.2 in
          absurd (a.0.first (subst (λ name. IsClaimed name before) names is))
      | inr apart ↦ apart.0
    ],
    not_again (before ++ c ∷ []) claims a.1 q goal at (claimed_more goal.name before c is),
  )

  are_distinct :
      (before claims : List Claim) (a : ClaimsAreAccepted above spec steps before claims) →
      IsDistinct eqb (numbers before claims a)
  unfolding IsDistinct
  are_distinct before [] a = tt
  are_distinct before (c ∷ claims) a = (
    not_again (before ++ c ∷ []) claims a.1 a.0.named.0 a.0.goal a.0.named.1
        (claimed_last a.0.goal.name before c (sym a.0.named.2)),
    are_distinct (before ++ c ∷ []) claims a.1,
  )

  pub few_claims :
      (claims : List Claim) → ClaimsAreAccepted above spec steps [] claims →
      length claims ≤ length spec.goals
  few_claims claims a =
      let few =
      length-le_from_distinct_below (numbers [] claims a) (length spec.goals)
      (are_distinct [] claims a) (are_below [] claims a) in
      omega (arith, few, as_many [] claims a)
