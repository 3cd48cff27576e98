-- What the claims on a specification with further goals have to prove.
use Rattle.std.specs.Prelude.{ℕ, ◌⊎◌, List, Contains}
use Rattle.std.specs.List.{AllByRecursion}
use Rattle.spec_core.specs.declared.records.Goal.{Goal}
use Rattle.clause_core.specs.declared.reports.Claim.{Claim}
use Rattle.acceptance.specs.Claims.{IsProvedBy}

-- each new goal is an old one, or is proved
abbrev pub FurtherAreProved : List Goal → List Goal → List Claim → Type 0
FurtherAreProved old new claims =
    AllByRecursion (λ (goal : Goal). Contains old goal ⊎ IsProvedBy goal.name claims) new

-- each goal that is proved by the claims before is proved by the new ones
abbrev pub StayProved : List Claim → List Claim → Type 0
StayProved before claims = (name : List ℕ) → IsProvedBy name before → IsProvedBy name claims
