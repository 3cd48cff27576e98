-- Laws of sessions, for an order on terms.
use Rattle.std.specs.Prelude.{◌≡◌, ℕ, List, [], ◌∷◌, ◌++◌, Bool, Some, map}
use Rattle.term_core.specs.Tree.{Tree}
use Rattle.spec_core.specs.declared.records.Spec.{Spec}
use Rattle.spec_core.specs.WellSorted.{IsWellSorted}
use Rattle.clause_core.specs.declared.steps.Step.{Step}
use Rattle.clause_core.specs.declared.answers.Children.{Children}
use Rattle.acceptance.specs.Accepting.{IsAccepted}
use Rattle.clause_core.specs.Tidied.{goal_clause}
use Rattle.acceptance.specs.Blocks.{clauses_of}
use Rattle.std.specs.List.{AllByRecursion}
use Rattle.spec_core.specs.Declarations.{IsDeclared}
use Rattle.spec_core.specs.Sig.{Sig}
use Rattle.proof_script.specs.Claims.{report_text}
use Rattle.proof_script.specs.Names.{IsReportName}
use Rattle.proof_script.specs.Reports.{most_steps}
use Rattle.proof_script.specs.Standing.{Between, StepStands}
use Rattle.proof_script.specs.Texts.{IsReportText}
use Rattle.block_links.specs.Links.{links_of}
use Rattle.acceptance.specs.AllowedAnswers.{IsWholeBlock}
use Rattle.acceptance.specs.Strict.{AllAreAllowed}
use Rattle.session_core.specs.declared.commands.Command.{Command}
use Rattle.session_core.specs.declared.commands.Command.TheVariants.{Goal as of_goal, Step as of_step, Undo}
use Rattle.session_core.specs.declared.errors.SessionError.{SessionError}
use Rattle.session_core.specs.States.{Work, State, start, pending, proves, nodes_at, with_step, without_step}
use Rattle.session_core.specs.Accepting.{Accepts, IsNeither, NextMakes, TakesGoal, TakesStep}
use Rattle.session_core.specs.Refusals.{IsNotSmaller, IsRefusedFor}
use Rattle.session_core.specs.Sound.{IsSound, report_of}
use Rattle.session_core.specs.Kept.{Kept, AreKept, IsKept, Keeps}
use Rattle.session_core.specs.Lengths.{lengths_after, steps_length}
use Rattle.session_core.specs.CommandText.{AreCommands, IsFaultyCommand}
use Rattle.session_core.specs.SessionText.{IsSessionText}
use Rattle.session_core.specs.Sessions.{IsStateOf}

-- a list of accepted commands has one state
pub record OneState (above : Tree → Tree → Type 0) : Type 0 where
  pub one :
      (spec : Spec) (commands : List Command) (state other : State) →
      IsWellSorted spec → IsStateOf above spec commands state → IsStateOf above spec commands other →
      state ≡ other
  -- one command more, at the end
  pub one_more :
      (spec : Spec) (commands : List Command) (command : Command) (old new : State) →
      IsStateOf above spec commands old → Accepts above spec old command new →
      IsStateOf above spec (commands ++ command ∷ []) new
  -- without the last command the list has the state from before it
  pub undone :
      (spec : Spec) (commands : List Command) (command : Command) (old new state : State) →
      IsWellSorted spec → IsStateOf above spec commands old → Accepts above spec old command new →
      IsStateOf above spec (commands ++ command ∷ []) state →
      (state ≡ new)
      × ((before : State) → IsStateOf above spec commands before → before ≡ old)
  -- and a list with a last command has a state without it
  pub before :
      (spec : Spec) (commands : List Command) (command : Command) (new : State) →
      IsStateOf above spec (commands ++ command ∷ []) new →
      (old : State) × IsStateOf above spec commands old × Accepts above spec old command new

-- a command that is accepted isn't refused, and is refused for one reason first
pub record OneAnswer (above : Tree → Tree → Type 0) : Type 0 where
  pub not_both :
      (spec : Spec) (old new : State) (command : Command) (why : SessionError) →
      IsWellSorted spec → Accepts above spec old command new →
      IsRefusedFor above spec old command why → ⊥
  pub one_reason :
      (spec : Spec) (old : State) (command : Command) (why reason : SessionError) →
      IsRefusedFor above spec old command why → IsRefusedFor above spec old command reason →
      why ≡ reason

-- the claims of each state make an accepted report; if a step leaves nothing pending, its goal is
-- the last of them
pub record StatesAreSound (above : Tree → Tree → Type 0) : Type 0 where
  pub sound :
      (spec : Spec) (commands : List Command) (state : State) →
      IsStateOf above spec commands state → IsSound above spec state
  pub accepted :
      (spec : Spec) (commands : List Command) (state : State) (steps : ℕ) →
      IsStateOf above spec commands state → IsAccepted above spec (report_of steps state)
  pub last :
      (spec : Spec) (old new : State) (step : Step) (t : TakesStep above spec old step new) →
      pending new ≡ 0 →
      new.claims ≡ old.claims ++ proves t.work.goal (t.work.steps ++ step ∷ []) ∷ []

-- if a step leaves nothing pending, all that is asked of its children and references is that
-- everything in the block is allowed; and the block is one of which this can be tested
pub record LastTest (above : Tree → Tree → Type 0) : Type 0 where
  pub related :
      (work : Work) (step : Step) (made : Children) →
      AllAreAllowed (with_step work step made).made → IsNeither made → ⊥
  pub exact :
      (work : Work) (step : Step) (made : Children) →
      without_step (with_step work step made) ≡ 0 →
      (AllAreAllowed (with_step work step made).made →
      IsNotSmaller made (with_step work step made) → ⊥)
      × ((AllAreAllowed (with_step work step made).made → ⊥) →
      IsNotSmaller made (with_step work step made))
  pub whole :
      (spec : Spec) (commands : List Command) (state : State) (work : Work) (step : Step)
      (made : Children) →
      IsStateOf above spec commands state → state.work ≡ Some work →
      NextMakes above spec state.claims work step made →
      without_step (with_step work step made) ≡ 0 →
      IsWholeBlock (with_step work step made).made

-- what a session keeps of its goals changes at the end alone: a goal adds an entry, and a step adds its
-- links, the nodes of its children and its length to the last one; taken back, they are dropped
pub record KeepsBothWays (above : Tree → Tree → Type 0) : Type 0 where
  pub starts : (spec : Spec) → Keeps above spec start []
  pub goal_begins :
      (spec : Spec) (old new : State) (name : List ℕ) (t : TakesGoal above spec old name new)
      (goals : List Kept) → Keeps above spec old goals →
      Keeps above spec new
      (goals
      ++ record {
        number = t.named.0;
        nodes = goal_clause t.goal ∷ [];
        links = [];
        lengths = [];
      } ∷ [])
  pub goal_undone :
      (spec : Spec) (old new : State) (name : List ℕ) → TakesGoal above spec old name new →
      (goals : List Kept) → Keeps above spec new goals →
      (front : List Kept) × (kept : Kept) × (goals ≡ front ++ kept ∷ [])
      × Keeps above spec old front
  pub step_taken :
      (spec : Spec) (old new : State) (step : Step) (t : TakesStep above spec old step new)
      (front : List Kept) (kept : Kept) → IsWellSorted spec → IsSound above spec old →
      AreKept above spec [] old.claims front → IsKept above spec old.claims t.work kept →
      Keeps above spec new
      (front
      ++ record {
        number = kept.number;
        nodes = kept.nodes ++ clauses_of t.made;
        links = kept.links ++ links_of t.made ∷ [];
        lengths = kept.lengths ++ steps_length spec.sig (t.work.steps ++ step ∷ []) ∷ [];
      } ∷ [])
  pub step_undone :
      (spec : Spec) (old new : State) (step : Step) (t : TakesStep above spec old step new)
      (goals : List Kept) → IsWellSorted spec → IsSound above spec old → Keeps above spec new goals →
      (front : List Kept) × (kept : Kept) × (goals ≡ front ++ kept ∷ [])
      × (kept.nodes ≡ nodes_at t.work ++ clauses_of t.made)
      × (kept.links ≡ map links_of t.work.made ++ links_of t.made ∷ [])
      × (kept.lengths
      ≡ lengths_after spec.sig 0 t.work.steps
      ++ steps_length spec.sig (t.work.steps ++ step ∷ []) ∷ [])
      × Keeps above spec old
      (front
      ++ record {
        number = kept.number;
        nodes = nodes_at t.work;
        links = map links_of t.work.made;
        lengths = lengths_after spec.sig 0 t.work.steps;
      } ∷ [])

-- a command that may appear in a text: a goal of a report's name, or a step that may appear
abbrev pub CommandStands : Sig → Command → Type 0
CommandStands sig (of_goal name) = IsReportName name
CommandStands sig (of_step step) = StepStands sig step
CommandStands sig Undo = Unit {0}

-- if the accepted commands may appear in a text, the report of the state has a text
abbrev pub ReportsStand : (Tree → Tree → Type 0) → Type 0
ReportsStand above =
    (spec : Spec) (commands : List Command) (state : State) (steps : ℕ) →
    IsStateOf above spec commands state → AllByRecursion (CommandStands spec.sig) commands →
    Between 1 most_steps steps →
    IsReportText spec.sig (report_text spec.sig (report_of steps state)) (report_of steps state)

-- on a well sorted specification commands give one text, with one ending
abbrev pub OneText : (Tree → Tree → Type 0) → Type 0
OneText above =
    (spec : Spec) (commands : List Command) (text other : List ℕ) (busy again : Bool) →
    IsWellSorted spec → IsSessionText above spec commands text busy →
    IsSessionText above spec commands other again → (text ≡ other) × (busy ≡ again)

-- the text of commands has one list of them, and no faulty line; and no bytes have two
pub record OneReading : Type 0 where
  pub one_list :
      (sig : Sig) (bytes : List ℕ) (commands others : List Command) → IsDeclared sig →
      AreCommands sig bytes commands → AreCommands sig bytes others → commands ≡ others
  pub no_fault :
      (sig : Sig) (bytes : List ℕ) (commands : List Command) (line : ℕ) →
      AreCommands sig bytes commands → IsFaultyCommand sig bytes line → ⊥
  pub one_fault :
      (sig : Sig) (bytes : List ℕ) (line other : ℕ) →
      IsFaultyCommand sig bytes line → IsFaultyCommand sig bytes other → line ≡ other
