-- What contracts see of a session.
use Rattle.std.specs.Prelude.{◌≡◌, ◌≤◌, ℕ, List, [], ◌∷◌, ◌++◌, Some, Result, Ok, Err, length, slice_get}
use Rattle.term_core.specs.Tree.{Tree}
use Rattle.spec_core.specs.declared.records.Spec.{Spec}
use Rattle.clause_core.specs.declared.answers.Children.{Children}
use Rattle.clause_core.specs.declared.clauses.Clause.{Clause}
use Rattle.inference_rules.specs.Answers.{clauses_of}
use Rattle.session_core.specs.declared.commands.Command.{Command}
use Rattle.session_core.specs.declared.commands.Command.TheVariants.{Goal, Step, Undo}
use Rattle.session_core.specs.declared.errors.SessionError.{SessionError}
use Rattle.session_core.specs.declared.errors.SessionError.TheVariants.{OutOfMemory}
use Rattle.session_core.specs.declared.kept_goals.KeptGoal.{KeptGoal}
use Rattle.session_core.specs.declared.errors.UndoError.{UndoError}
use Rattle.session_core.specs.States.{Work, State, nodes_at, pending}
use Rattle.session_core.specs.Refusals.{IsRefusedFor}
use Rattle.session_core.specs.Sessions.{IsStateOf}
use Rattle.session_core.specs.Kept.{Kept, Keeps}

-- the accepted commands that aren't taken back, and what is kept of the goals
pub record SessionValue : Type 0 where
  pub commands : List Command
  pub goals : List Kept

abbrev pub kept_of : KeptGoal → Kept
kept_of goal = record {
  number = goal.number;
  nodes = clauses_of goal.taken.nodes.items;
  links = goal.taken.links.items;
  lengths = goal.lengths.items;
}

abbrev pub number_of : KeptGoal → ℕ
number_of goal = goal.number

-- the last of these goals has a link and a length, and the nodes of the children come last
pub record LastStep (goals : List Kept) : Type 0 where
  pub front : List Kept
  pub last : Kept
  pub is : goals ≡ front ++ last ∷ []
  pub links : List Children
  pub link : Children
  pub links_are : last.links ≡ links ++ link ∷ []
  pub lengths : List ℕ
  pub total : ℕ
  pub lengths_are : last.lengths ≡ lengths ++ total ∷ []
  pub nodes : List Clause
  pub others : List Clause
  pub nodes_are : last.nodes ≡ nodes ++ others
  pub counted : length others ≡ length link.clauses
  pub reached : length links ≤ length nodes
  pub few : length nodes ≤ 10000

-- that goal without this link, these nodes and this length
abbrev pub without_last : {goals : List Kept} → LastStep goals → Kept
without_last l =
    record { number = l.last.number; nodes = l.nodes; links = l.links; lengths = l.lengths }

module _ (above : Tree → Tree → Type 0) (spec : Spec) where
  -- the commands were carried out over this specification and order, and what is kept of the goals is
  -- that of the state
  pub record IsSession (value : SessionValue) : Type 0 where
    pub state : State
    pub is_state : IsStateOf above spec value.commands state
    pub keeps : Keeps above spec state value.goals

  -- without commands nothing is taken back; else the last one is, and this is how many nodes are
  -- pending then
  abbrev pub Undoes : SessionValue → SessionValue → Result ℕ UndoError → Type 0
  Undoes old new (Ok count) =
      ((last : Command) × (old.commands ≡ new.commands ++ last ∷ []))
      × ((session : IsSession new) × (count ≡ pending session.state))
  Undoes old new (Err _) = (old.commands ≡ []) × (new ≡ old)

  -- what carrying out a command answers: it is accepted at the state of the old commands, and this is
  -- how many nodes are pending then; or it is refused there, first for this reason, and nothing changes
  abbrev pub Applies :
      SessionValue → Command → SessionValue → Result ℕ SessionError → Type 0
  Applies old command new (Err OutOfMemory) = new ≡ old
  Applies old command new (Err why) =
      (new ≡ old)
      × ((state : State) → IsStateOf above spec old.commands state →
      IsRefusedFor above spec state command why)
  Applies old command new (Ok count) =
      (new.commands ≡ old.commands ++ command ∷ [])
      × ((session : IsSession new) × (count ≡ pending session.state))

-- a goal or a step
abbrev pub IsChange : Command → Type 0
IsChange (Goal name) = Unit {0}
IsChange (Step step) = Unit {0}
IsChange Undo = ⊥

-- a goal is under work, and its first node without a step has this number and this clause
abbrev pub IsOpenNode : State → ℕ → Clause → Type 0
IsOpenNode state number clause =
    (work : Work) × (state.work ≡ Some work) × (number ≡ length work.steps)
    × (slice_get (nodes_at work) number ≡ Some clause)
