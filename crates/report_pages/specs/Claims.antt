-- What a page shows of a claim.
use Rattle.std.specs.Prelude.{◌≡◌, ℕ, ◌==◌, List, [], ◌∷◌, ◌++◌, Contains, Some, if◌then◌else◌}
use Rattle.std.specs.Prelude.{codes, length, slice_get}
use Rattle.std.specs.Fmt.{decimal}
use Rattle.std.specs.List.{AllByRecursion}
use Rattle.term_core.specs.Tree.{Tree}
use Rattle.spec_core.specs.Sig.{Sig}
use Rattle.spec_core.specs.declared.records.Goal.{Goal}
use Rattle.spec_core.specs.declared.records.Spec.{Spec}
use Rattle.clause_core.specs.declared.reports.Claim.{Claim}
use Rattle.clause_core.specs.declared.reports.Outcome.{Outcome}
use Rattle.clause_core.specs.declared.reports.Outcome.TheVariants.{Proved, Refuted, Open}
use Rattle.clause_core.specs.declared.steps.Step.{Step}
use Rattle.acceptance.specs.Accepting.{NamedValues}
use Rattle.claimed_goals.specs.Tracking.{AreProved}
use Rattle.page_core.specs.Events.{Event, link, within}
use Rattle.page_core.specs.declared.parts.Anchor.TheVariants.{Goal as to_goal}
use Rattle.page_core.specs.declared.parts.Part.TheVariants.{GoalLine, Goal as goal_part, GoalHeading, Note}
use Rattle.proof_words.specs.GoalEvents.{goal_events}
use Rattle.proof_words.specs.ListEvents.{plain}
use Rattle.proof_trees.specs.Shown.{IsProofShown}
use Rattle.report_pages.specs.OpenClaims.{open_events}
use Rattle.report_pages.specs.Refutations.{IsRefutationShown}

-- how a claim ends, between the goal's name and its clause
abbrev pub status : Outcome → List ℕ
status (Proved block) = codes " (proved): "
status (Refuted index values) = codes " (refuted): "
status (Open budget) = codes " (open): "

-- a line of the list of goals: a link to the goal of this number, how its claim ends, and its clause
abbrev pub line_events : Sig → ℕ → Goal → Outcome → List Event
line_events sig number goal outcome =
    within GoalLine (link (to_goal number) goal.name ∷ plain (status outcome) ∷ goal_events sig goal)

-- `goal NAME : CLAUSE`
abbrev pub heading_events : Sig → Goal → List Event
heading_events sig goal =
    within GoalHeading (plain (codes "goal ") ∷ plain goal.name ∷ plain (codes " : ") ∷ goal_events sig goal)

-- `1 node`, or `n nodes`
abbrev pub node_word : ℕ → List ℕ
node_word n = if n == 1 then codes " node" else codes " nodes"

abbrev pub nodes_events : ℕ → List Event
nodes_events n = plain (decimal n) ∷ plain (node_word n) ∷ []

-- how many nodes a proof has
abbrev pub proved_note : ℕ → List Event
proved_note count = within Note (plain (codes "proved: ") ∷ nodes_events count)

abbrev pub refuted_note : List Event
refuted_note = within Note (plain (codes "refuted: the goal fails under the values below") ∷ [])

-- a claim's goal, and its number
abbrev pub IsGoalOf : Spec → Claim → ℕ → Goal → Type 0
IsGoalOf spec claim number goal = (slice_get spec.goals number ≡ Some goal) × (goal.name ≡ claim.goal)

-- the claim is on a goal of the specification
abbrev pub HasGoal : Spec → Claim → Type 0
HasGoal spec claim = (number : ℕ) × (goal : Goal) × IsGoalOf spec claim number goal

abbrev pub HaveGoals : Spec → List Claim → Type 0
HaveGoals spec claims = AllByRecursion (HasGoal spec) claims

abbrev pub IsLineShown : Spec → Claim → List Event → Type 0
IsLineShown spec claim events =
    (number : ℕ) × (goal : Goal) × IsGoalOf spec claim number goal
    × (events ≡ line_events spec.sig number goal claim.outcome)

-- the values under which the goal fails
abbrev pub IsRefutedShown : Spec → ℕ → Goal → NamedValues → List Event → Type 0
IsRefutedShown spec steps goal values events =
    (shown : List Event) × IsRefutationShown spec steps values goal shown × (events ≡ refuted_note ++ shown)

module _ (above : Tree → Tree → Type 0) (spec : Spec) (steps : ℕ) where
  -- the proof of the goal of this number, over the goals that the claims before it prove
  abbrev pub IsProvedShown : List Claim → ℕ → Goal → List Step → List Event → Type 0
  IsProvedShown before number goal block events =
      (proved : List ℕ) × (proof : List Event) × AreProved spec before proved
      × IsProofShown above spec (Contains proved) number goal block proof
      × (events ≡ proved_note (length block) ++ proof)

  -- what a claim says of the goal of this number
  abbrev pub IsOutcomeShown : List Claim → ℕ → Goal → Outcome → List Event → Type 0
  IsOutcomeShown before number goal (Proved block) events =
      IsProvedShown before number goal block.steps events
  IsOutcomeShown before number goal (Refuted index values) events =
      IsRefutedShown spec steps goal values events
  IsOutcomeShown before number goal (Open budget) events = events ≡ within Note (open_events budget)

  -- a section: the goal of this number, and what a claim says of it
  abbrev pub IsSectionShown : List Claim → ℕ → Goal → Outcome → List Event → Type 0
  IsSectionShown before number goal outcome events =
      (body : List Event) × IsOutcomeShown before number goal outcome body
      × (events ≡ within (goal_part number) (heading_events spec.sig goal ++ body))

  -- a section for the claim's goal
  abbrev pub IsClaimShown : List Claim → Claim → List Event → Type 0
  IsClaimShown before claim events =
      (number : ℕ) × (goal : Goal) × IsGoalOf spec claim number goal
      × IsSectionShown before number goal claim.outcome events
