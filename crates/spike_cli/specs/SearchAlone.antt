-- What a search for counterexamples alone says: `refute` is `prove` if no proof is looked for.
use Rattle.std.specs.Prelude.{◌≡◌, ◌≢◌, ℕ, List, []}
use Rattle.spec_core.specs.declared.records.Goal.{Goal}
use Rattle.spec_core.specs.declared.records.Spec.{Spec}
use Rattle.spec_core.specs.WellSorted.{IsWellSorted, GoalIsSorted}
use Rattle.clause_core.specs.declared.reports.Claim.{Claim}
use Rattle.plain_proof.specs.FirstPlain.{HasPlain}
use Rattle.search_claims.specs.Claims.{IsClaimOn as IsClaimOfSearch}
use Rattle.command_line.specs.declared.bounds.SearchBounds.{SearchBounds}
use Rattle.file_replies.specs.declared.statuses.Status.TheVariants.{Open, Done}
use Rattle.spike_cli.specs.Claims.{HasRoutine, IsClaimOn, IsStatusOfGoals, SomeRefutable}
use Rattle.spike_cli.specs.Reports.{search_alone}

module _ (search : SearchBounds) (spec : Spec) where
  -- a claim on the goal is what the search answers, whatever the lemmas
  abbrev pub ClaimsAreOfSearch : Goal → Type 0
  ClaimsAreOfSearch goal =
      (lemmas : List ℕ) (claim : Claim) → IsClaimOn (search_alone search) spec lemmas goal claim →
      IsClaimOfSearch search spec goal claim

  -- Open comes if there is a goal and none is refutable, and Done if there is none
  pub record StatusIsOfSearch : Type 0 where
    pub left_open :
        IsStatusOfGoals (search_alone search) spec Open →
        (spec.goals ≢ []) × (SomeRefutable (search_alone search) spec → ⊥)
    pub done : IsStatusOfGoals (search_alone search) spec Done → spec.goals ≡ []

-- no goal has a plain proof of no length, or a routine proof of no nodes, so that a search alone
-- proves none
pub record SearchAlone : Type 0 where
  pub no_plain :
      (spec : Spec) (goal : Goal) (x : ℕ) → IsWellSorted spec → GoalIsSorted spec.sig goal →
      HasPlain spec goal 0 x → ⊥
  pub no_routine :
      (search : SearchBounds) (spec : Spec) (lemmas : List ℕ) (goal : Goal) →
      HasRoutine (search_alone search) spec lemmas goal → ⊥
  pub claims :
      (search : SearchBounds) (spec : Spec) (goal : Goal) → IsWellSorted spec →
      GoalIsSorted spec.sig goal → ClaimsAreOfSearch search spec goal
  pub statuses :
      (search : SearchBounds) (spec : Spec) → IsWellSorted spec → StatusIsOfSearch search spec
