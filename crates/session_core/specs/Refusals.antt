-- Which commands are refused, and the first reason.
use Rattle.std.specs.Prelude.{◌≡◌, ◌⊎◌, ℕ, ◌<◌, List, Some, None, length}
use Rattle.term_core.specs.Tree.{Tree}
use Rattle.spec_core.specs.declared.records.Spec.{Spec}
use Rattle.spec_core.specs.Sig.{Sig}
use Rattle.spec_core.specs.Findings.{Search, nothing, test, then, each, First}
use Rattle.clause_core.specs.declared.answers.Children.{Children}
use Rattle.clause_core.specs.declared.answers.Why.{Why}
use Rattle.clause_core.specs.declared.steps.Step.{Step}
use Rattle.clause_core.specs.Limits.{IsWithin}
use Rattle.clause_core.specs.Tidied.{goal_clause}
use Rattle.acceptance.specs.Claims.{IsClaimed, ProvedBefore}
use Rattle.acceptance.specs.Refusals.{OfGoal, all_reasons}
use Rattle.acceptance.specs.StepRefusals.{IsRefused}
use Rattle.acceptance.specs.Strict.{AllAreAllowed}
use Rattle.session_core.specs.declared.commands.Command.{Command}
use Rattle.session_core.specs.declared.commands.Command.TheVariants.{Goal as of_goal, Step as of_step, Undo}
use Rattle.session_core.specs.declared.errors.SessionError.{SessionError}
use Rattle.session_core.specs.declared.errors.SessionError.TheVariants.{GoalUnderWork, UnknownGoal, GoalTwice, NoGoal}
use Rattle.session_core.specs.declared.errors.SessionError.TheVariants.{Step as undefined, NotSmaller, Limit}
use Rattle.session_core.specs.States.{Work, State, nodes_at, without_step, with_step}
use Rattle.session_core.specs.Accepting.{IsNeither, NextMakes, text_length}

-- a child or a reference is Neither, or no node is left without a step and something in the block
-- isn't allowed
abbrev pub IsNotSmaller : Children → Work → Type 0
IsNotSmaller made work = IsNeither made ⊎ ((without_step work ≡ 0) × ¬ (AllAreAllowed work.made))

-- the claim's text would have too many bytes
abbrev pub IsTooLong : Sig → Work → Type 0
IsTooLong sig work = 300000 < text_length sig work

module _ (above : Tree → Tree → Type 0) (spec : Spec) where
  -- a goal is refused: one is under work, there is none of this name, it is proved, or its clause
  -- passes a limit
  abbrev pub goal_tests : State → List ℕ → Search SessionError
  goal_tests state name =
      then (test GoalUnderWork (¬ (state.work ≡ None)))
      (then (test UnknownGoal (¬ (OfGoal spec name (λ goal. Unit {0}))))
      (then (test GoalTwice (IsClaimed name state.claims))
      (test Limit (OfGoal spec name (λ goal. ¬ (IsWithin (goal_clause goal)))))))

  module _ (state : State) (step : Step) where
    -- the step isn't defined at the first node without one, for this reason
    abbrev pub IsUndefined : Why → Type 0
    IsUndefined why =
        (work : Work) × (state.work ≡ Some work)
        × IsRefused above spec (ProvedBefore spec state.claims) (nodes_at work)
        (length work.steps) step why

    -- this is so of what the step makes there, and of the work with it
    abbrev pub OfStep : (Children → Work → Type 0) → Type 0
    OfStep P =
        (work : Work) × (made : Children) × (state.work ≡ Some work)
        × NextMakes above spec state.claims work step made × P made (with_step work step made)

    -- a step is refused: no goal is under work, the step isn't defined, what it makes isn't smaller,
    -- or the text is too long
    abbrev pub step_tests : Search SessionError
    step_tests =
        then (test NoGoal (state.work ≡ None))
        (then (each (λ why. test (undefined why) (IsUndefined why)) all_reasons)
        (then (test NotSmaller (OfStep IsNotSmaller))
        (test Limit (OfStep (λ made work. IsTooLong spec.sig work)))))

  -- the tests of a goal or a step; taking back is no change of a state
  abbrev pub tests : State → Command → Search SessionError
  tests state (of_goal name) = goal_tests state name
  tests state (of_step step) = step_tests state step
  tests state Undo = nothing

  -- the command is refused, first for this reason
  abbrev pub IsRefusedFor : State → Command → SessionError → Type 0
  IsRefusedFor state command why = First (tests state command) why
