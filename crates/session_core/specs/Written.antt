-- The commands that a state shows: those of its claims, and those of the goal under work.
use Rattle.std.specs.Prelude.{◌≡◌, ℕ, List, [], ◌∷◌, ◌++◌, Option, Some, None, flat_map, length, map}
use Rattle.std.specs.List.{AllZip}
use Rattle.clause_core.specs.declared.reports.Claim.{Claim}
use Rattle.clause_core.specs.declared.reports.Outcome.{Outcome}
use Rattle.clause_core.specs.declared.reports.Outcome.TheVariants.{Proved, Refuted, Open}
use Rattle.clause_core.specs.declared.steps.Step.{Step}
use Rattle.session_core.specs.declared.commands.Command.{Command}
use Rattle.session_core.specs.declared.commands.Command.TheVariants.{Goal, Step as of_step}
use Rattle.session_core.specs.Kept.{Kept}
use Rattle.session_core.specs.States.{Work, State, proves_named}

-- steps, and a goal with its steps
abbrev pub step_commands : List Step → List Command
step_commands steps = map (λ (s : Step). of_step s) steps

abbrev pub goal_commands : List ℕ → List Step → List Command
goal_commands name steps = Goal name ∷ step_commands steps

abbrev pub steps_in : Outcome → List Step
steps_in (Proved block) = block.steps
steps_in (Refuted index values) = []
steps_in (Open budget) = []

abbrev pub claim_commands : Claim → List Command
claim_commands claim = goal_commands claim.goal (steps_in claim.outcome)

abbrev pub work_commands : Option Work → List Command
work_commands None = []
work_commands (Some work) = goal_commands work.goal.name work.steps

abbrev pub state_commands : State → List Command
state_commands state = flat_map claim_commands state.claims ++ work_commands state.work

-- the commands begin with a goal of this name and as many steps as `count`
pub record BeginsWithGoal (commands : List Command) (count : ℕ) : Type 0 where
  pub name : List ℕ
  pub steps : List Step
  pub others : List Command
  pub is : commands ≡ goal_commands name steps ++ others
  pub counted : length steps ≡ count

-- the goals that are kept have as many links as the claims have steps
abbrev pub AreWritten : List Claim → List Kept → Type 0
AreWritten claims goals =
    AllZip (λ (claim : Claim) (kept : Kept).
    (claim ≡ proves_named claim.goal (steps_in claim.outcome))
    × (length (steps_in claim.outcome) ≡ length kept.links)) claims goals

-- the commands begin with those of claims on these goals
pub record BeginWithClaims (commands : List Command) (goals : List Kept) : Type 0 where
  pub claims : List Claim
  pub others : List Command
  pub written : AreWritten claims goals
  pub is : commands ≡ flat_map claim_commands claims ++ others
