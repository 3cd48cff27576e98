-- The first counterexample that searches to the depths from 1 to 8 find.
use Rattle.std.specs.Prelude.{ℕ, ◌<◌, ◌≤◌, Option, Some, None}
use Rattle.spec_core.specs.declared.records.Spec.{Spec}
use Rattle.spec_core.specs.declared.records.Goal.{Goal}
use Rattle.clause_core.specs.declared.reports.Budget.{Budget}
use Rattle.clause_core.specs.declared.reports.Claim.{Claim}
use Rattle.clause_core.specs.declared.reports.Outcome.TheVariants.{Refuted, Open}
use Rattle.command_line.specs.declared.bounds.SearchBounds.{SearchBounds}
use Rattle.search_claims.specs.declared.deepening.Deepened.{Deepened}
use Rattle.search_claims.specs.Claims.{IsClaimOn}

module _ (bounds : SearchBounds) (spec : Spec) (goal : Goal) where
  -- the claim of a search to this depth, with the same tries and steps
  abbrev pub IsClaimTo : ℕ → Claim → Type 0
  IsClaimTo depth claim =
      IsClaimOn (record { depth = depth; tries = bounds.tries; steps = bounds.steps }) spec goal
      claim

  -- a search to this depth finds no counterexample
  abbrev pub FindsNone : ℕ → Type 0
  FindsNone depth =
      (budget : Budget) × IsClaimTo depth (record { goal = goal.name; outcome = Open budget })

  -- a search to this depth finds it
  abbrev pub IsFoundTo : Deepened → Type 0
  IsFoundTo found =
      (index : ℕ)
      × IsClaimTo found.depth (record { goal = goal.name; outcome = Refuted index found.values })

  -- the first of the searches to the depths from 1 to 8 that finds one finds this; or none does
  abbrev pub IsDeepened : Option Deepened → Type 0
  IsDeepened (Some found) =
      (1 ≤ found.depth) × (found.depth ≤ 8) × IsFoundTo found
      × ((depth : ℕ) → 1 ≤ depth → depth < found.depth → FindsNone depth)
  IsDeepened None = (depth : ℕ) → 1 ≤ depth → depth ≤ 8 → FindsNone depth
