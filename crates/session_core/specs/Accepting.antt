-- Which commands are accepted, and what they make of a state.
use Rattle.std.specs.Prelude.{◌≡◌, ◌⊎◌, ℕ, ◌≤◌, List, ◌∷◌, Some, None, length, map, slice_get}
use Rattle.term_core.specs.Tree.{Tree}
use Rattle.spec_core.specs.declared.records.Goal.{Goal}
use Rattle.spec_core.specs.declared.records.Spec.{Spec}
use Rattle.spec_core.specs.Sig.{Sig}
use Rattle.clause_core.specs.declared.answers.Child.{Child}
use Rattle.clause_core.specs.declared.answers.Children.{Children}
use Rattle.clause_core.specs.declared.answers.Reference.{Reference}
use Rattle.clause_core.specs.declared.clauses.Relation.TheVariants.{Neither}
use Rattle.clause_core.specs.declared.reports.Claim.{Claim}
use Rattle.clause_core.specs.declared.steps.Step.{Step}
use Rattle.clause_core.specs.Limits.{IsWithin}
use Rattle.clause_core.specs.Tidied.{goal_clause}
use Rattle.acceptance.specs.Blocks.{StepMakes}
use Rattle.acceptance.specs.Claims.{IsClaimed, IsGoalNamed, ProvedBefore}
use Rattle.acceptance.specs.Strict.{AllAreAllowed}
use Rattle.proof_script.specs.Steps.{step_line}
use Rattle.proof_script.specs.Words.{Line, lines_text}
use Rattle.session_core.specs.declared.commands.Command.{Command}
use Rattle.session_core.specs.declared.commands.Command.TheVariants.{Goal as of_goal, Step as of_step, Undo}
use Rattle.session_core.specs.Lengths.{proved_line}
use Rattle.session_core.specs.States.{Work, State, begun, nodes_at, settled, with_step, without_step}

-- a child is Neither, a reference is, or one of both
abbrev pub HasNeitherChild : Children → Type 0
HasNeitherChild made =
    (i : ℕ) × (child : Child) × (slice_get made.clauses i ≡ Some child)
    × (child.relation ≡ Neither)

abbrev pub HasNeitherReference : Children → Type 0
HasNeitherReference made =
    (i : ℕ) × (reference : Reference) × (slice_get made.refs i ≡ Some reference)
    × (reference.relation ≡ Neither)

abbrev pub IsNeither : Children → Type 0
IsNeither made = HasNeitherChild made ⊎ HasNeitherReference made

-- the lines of the claim on the goal under work, with the number of nodes so far
abbrev pub lines_so_far : Work → List Line
lines_so_far work =
    proved_line work.goal.name (length (nodes_at work)) ∷ map step_line work.steps

-- how many bytes these lines have
abbrev pub text_length : Sig → Work → ℕ
text_length sig work = length (lines_text sig (lines_so_far work))

module _ (above : Tree → Tree → Type 0) (spec : Spec) where
  -- the step of the first node without one makes this, if the proved goals are the lemmas
  abbrev pub NextMakes : List Claim → Work → Step → Children → Type 0
  NextMakes claims work step made =
      StepMakes above spec (ProvedBefore spec claims) (nodes_at work) (length work.steps) step made

  -- before the command no goal is under work, and after it the goal of this name is; that goal isn't proved
  pub record TakesGoal (old : State) (name : List ℕ) (new : State) : Type 0 where
    pub idle : old.work ≡ None
    pub goal : Goal
    pub named : IsGoalNamed spec name goal
    pub unproved : IsClaimed name old.claims → ⊥
    pub within : IsWithin (goal_clause goal)
    pub is : new ≡ begun old.claims goal

  -- the step of the first node without one makes what isn't Neither; if it is the last one,
  -- everything in the block is allowed
  pub record TakesStep (old : State) (step : Step) (new : State) : Type 0 where
    pub work : Work
    pub under_work : old.work ≡ Some work
    pub made : Children
    pub makes : NextMakes old.claims work step made
    pub related : IsNeither made → ⊥
    pub allowed :
        without_step (with_step work step made) ≡ 0 → AllAreAllowed (with_step work step made).made
    pub short : text_length spec.sig (with_step work step made) ≤ 300000
    pub is : new ≡ settled old.claims (with_step work step made)

  -- the command is accepted, and makes this of the state; taking back is no change of a state
  abbrev pub Accepts : State → Command → State → Type 0
  Accepts old (of_goal name) new = TakesGoal old name new
  Accepts old (of_step step) new = TakesStep old step new
  Accepts old Undo new = ⊥
