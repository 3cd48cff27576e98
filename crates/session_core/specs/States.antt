-- States of a session.
use Rattle.std.specs.Prelude.{ℕ, zero, suc, ◌-◌, List, [], ◌∷◌, ◌++◌, Option, Some, None, length}
use Rattle.spec_core.specs.declared.records.Goal.{Goal}
use Rattle.clause_core.specs.declared.answers.Children.{Children}
use Rattle.clause_core.specs.declared.clauses.Clause.{Clause}
use Rattle.clause_core.specs.declared.reports.Claim.{Claim}
use Rattle.clause_core.specs.declared.reports.Outcome.TheVariants.{Proved}
use Rattle.clause_core.specs.declared.steps.Step.{Step}
use Rattle.clause_core.specs.Tidied.{goal_clause}
use Rattle.acceptance.specs.Blocks.{nodes_of}

-- a goal under work: its steps so far, and what they make
pub record Work : Type 0 where
  pub goal : Goal
  pub steps : List Step
  pub made : List Children

-- the goals that are proved, by their claims, and at most one goal under work
pub record State : Type 0 where
  pub claims : List Claim
  pub work : Option Work

-- a session begins with neither
abbrev pub start : State
start = record { claims = []; work = None }

-- the nodes of the goal under work, and how many of them have no step
abbrev pub nodes_at : Work → List Clause
nodes_at work = nodes_of (goal_clause work.goal) work.made

abbrev pub without_step : Work → ℕ
without_step work = length (nodes_at work) - length work.steps

-- the same of a state, and 0 if no goal is under work
abbrev pub pending_of : Option Work → ℕ
pending_of None = 0
pending_of (Some work) = without_step work

abbrev pub pending : State → ℕ
pending state = pending_of state.work

-- the claim that the goal, of this name, is proved by these steps
abbrev pub proves_named : List ℕ → List Step → Claim
proves_named name steps = record { goal = name; outcome = Proved (record { steps = steps }) }

abbrev pub proves : Goal → List Step → Claim
proves goal steps = proves_named goal.name steps

-- with a goal under work, for which no step is taken
abbrev pub begun : List Claim → Goal → State
begun claims goal =
    record { claims = claims; work = Some (record { goal = goal; steps = []; made = [] }) }

-- with one step more, and what it makes
abbrev pub with_step : Work → Step → Children → Work
with_step work step made =
    record { goal = work.goal; steps = work.steps ++ step ∷ []; made = work.made ++ made ∷ [] }

-- the goal stays under work if some nodes have no step, and if none is left its claim is
-- the last one
abbrev pub settled_by : ℕ → List Claim → Work → State
settled_by zero claims work =
    record { claims = claims ++ proves work.goal work.steps ∷ []; work = None }
settled_by (suc n) claims work = record { claims = claims; work = Some work }

abbrev pub settled : List Claim → Work → State
settled claims work = settled_by (without_step work) claims work
