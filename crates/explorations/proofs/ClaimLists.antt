-- Claims of a list, one by one.
use Rattle.std.proofs.Common.{◌≡◌, ℕ, ◌+◌, ◌<◌, List, [], ◌∷◌, inl, inr, refl, sym, ◌∙◌, subst, ap}
use Rattle.std.proofs.Common.{length, get_or, drop}
use Rattle.std.specs.Prelude.{◌↔◌}
use Rattle.std.proofs.lemmas.List.{drop_more}
use Rattle.clause_core.specs.declared.reports.Claim.{Claim}
use Rattle.acceptance.specs.Claims.{IsProvedBy, SaysProved}
use Rattle.explorations.specs.Proved.{StayProved}

-- what is left of a list begins with its next item
pub rest_begins : {X : Type 0} (xs : List X) (i : ℕ) (x : X) → i < length xs → x ≡ get_or xs i x →
    drop i xs ≡ x ∷ drop (i + 1) xs
rest_begins xs i x within is = drop_more xs i x within ∙ ap (λ y. y ∷ drop (i + 1) xs) (sym is)

module _ (name : List ℕ) (claims : List Claim) (i : ℕ) (claim : Claim) (within : i < length claims)
    (is : claim ≡ get_or claims i claim) (decides : IsProvedBy name (drop i claims) ↔ IsProvedBy name claims) where
  next_decides : IsProvedBy name (claim ∷ drop (i + 1) claims) ↔ IsProvedBy name claims
  next_decides =
      subst (λ cs. IsProvedBy name cs ↔ IsProvedBy name claims) (rest_begins claims i claim within is) decides

  pub proved_here : (claim.goal ≡ name) × SaysProved claim.outcome → IsProvedBy name claims
  proved_here here = next_decides.0 (inl here)

  pub proved_later : ((claim.goal ≡ name) × SaysProved claim.outcome → ⊥) →
      IsProvedBy name (drop (i + 1) claims) ↔ IsProvedBy name claims
  proved_later other = (
    (λ h. next_decides.0 (inr h)),
    (λ h. elim (next_decides.1 h) [ inl here ↦ absurd (other here) | inr later ↦ later ]),
  )

-- what a claim before asks of the new ones
abbrev pub Stays : Claim → List Claim → Type 0
Stays claim claims = SaysProved claim.outcome → IsProvedBy claim.goal claims

stay_one : (claim : Claim) (rest claims : List Claim) → Stays claim claims →
    StayProved rest claims → StayProved (claim ∷ rest) claims
stay_one claim rest claims one others =
    λ name h. elim h [
      | inl here ↦ subst (λ n. IsProvedBy n claims) here.0 (one here.1)
      | inr later ↦ others name later
    ]

module _ (before claims : List Claim) (i : ℕ) (claim : Claim) (within : i < length before)
    (is : claim ≡ get_or before i claim)
    (decides : StayProved (drop i before) claims ↔ StayProved before claims) where
  next_stays : StayProved (claim ∷ drop (i + 1) before) claims ↔ StayProved before claims
  next_stays =
      subst (λ cs. StayProved cs claims ↔ StayProved before claims) (rest_begins before i claim within is) decides

  pub one_stays : Stays claim claims → StayProved (drop (i + 1) before) claims ↔ StayProved before claims
  one_stays one = (
    (λ h. next_stays.0 (stay_one claim (drop (i + 1) before) claims one h)),
    (λ h name later. next_stays.1 h name (inr later)),
  )

  pub all_stay : StayProved before claims → Stays claim claims
  all_stay h = λ says. next_stays.1 h claim.goal (inl (refl, says))

pub none_stay : (rest before claims : List Claim) → rest ≡ [] → StayProved rest claims ↔ StayProved before claims →
    StayProved before claims
none_stay rest before claims end decides =
    decides.0 (subst (λ cs. StayProved cs claims) (sym end) (λ name h. absurd h))

pub none_proved : (name : List ℕ) (rest claims : List Claim) → rest ≡ [] →
    IsProvedBy name rest ↔ IsProvedBy name claims → IsProvedBy name claims → ⊥
none_proved name rest claims end decides h = subst (λ cs. IsProvedBy name cs) end (decides.1 h)
