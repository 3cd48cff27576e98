-- A specification adds nothing to itself.
use Rattle.std.proofs.Common.{suc, List, [], ◌∷◌, inl, refl, arith}
use Rattle.std.specs.Prelude.{◌⊎◌, Contains}
use Rattle.std.specs.List.{AllByRecursion}
use Rattle.spec_core.specs.declared.records.Goal.{Goal}
use Rattle.spec_core.specs.declared.records.Spec.{Spec}
use Rattle.clause_core.specs.declared.reports.Claim.{Claim}
use Rattle.acceptance.specs.Claims.{IsProvedBy}
use Rattle.added_goals.specs.Additions.{AddsGoals, AreKept}
use Rattle.explorations.specs.Proved.{FurtherAreProved}

own_kept : (goals : List Goal) → AreKept goals goals
own_kept [] = tt
own_kept (goal ∷ goals) = inl (refl, own_kept goals)

pub own_added : (spec : Spec) → AddsGoals spec spec
own_added spec = record { signature = refl; order = refl; rules = refl; goals = own_kept spec.goals }

each_own : (goals rest : List Goal) (claims : List Claim) →
    ((goal : Goal) → Contains rest goal → Contains goals goal) →
    AllByRecursion (λ (goal : Goal). Contains goals goal ⊎ IsProvedBy goal.name claims) rest
each_own goals [] claims within = tt
each_own goals (first ∷ rest) claims within = (
  inl (within first (0, omega arith, refl)),
  each_own goals rest claims (λ goal c. within goal (suc c.0, omega (arith, c.1), c.2)),
)

pub own_proved : (goals : List Goal) (claims : List Claim) → FurtherAreProved goals goals claims
own_proved goals claims = each_own goals goals claims (λ goal c. c)
