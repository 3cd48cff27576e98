-- The state without its last command, and what is kept of it.
use Rattle.std.proofs.Common.{◌≡◌, ℕ, ◌-◌, List, [], ◌∷◌, ◌++◌, refl, sym, ap, subst, length}
use Rattle.term_core.specs.Tree.{Tree}
use Rattle.spec_core.specs.declared.records.Spec.{Spec}
use Rattle.spec_core.specs.WellSorted.{IsWellSorted}
use Rattle.clause_core.specs.ClauseLaws.{OneRelation}
use Rattle.session_core.specs.declared.commands.Command.{Command}
use Rattle.session_core.specs.declared.commands.Command.TheVariants.{Goal, Step, Undo}
use Rattle.session_core.specs.States.{State, start, pending, pending_of}
use Rattle.session_core.specs.Accepting.{Accepts, TakesGoal}
use Rattle.session_core.specs.Sessions.{IsStateOf}
use Rattle.session_core.specs.Kept.{Kept, Keeps}
use Rattle.session_core.specs.Value.{LastStep, without_last}
use Rattle.session_core.proofs.OneState.{lead_last}
use Rattle.session_core.proofs.Sound.{states_sound}
use Rattle.session_core.proofs.Undoing.{goal_undone, last_step}

module _ (above : Tree → Tree → Type 0) (spec : Spec) (commands : List Command) (state : State) (goals : List Kept)
    (keeps : Keeps above spec state goals) where
  -- a goal is taken back
  pub record GoalBack : Type 0 where
    pub front : List Kept
    pub last : Kept
    pub is : goals ≡ front ++ last ∷ []
    pub old : State
    pub is_state : IsStateOf above spec commands old
    pub keeps_old : Keeps above spec old front
    pub none : 0 ≡ pending old

  pub goal_back : (last : Command) → IsStateOf above spec (commands ++ last ∷ []) state → (name : List ℕ) →
      last ≡ Goal name → GoalBack
  goal_back last p name e =
      let b = lead_last above spec start commands state last p in
      let t : TakesGoal above spec b.0 name state = subst (λ c. Accepts above spec b.0 c state) e b.2 in
      let u = goal_undone above spec b.0 state name t goals keeps in
      record {
        front = u.0;
        last = u.1;
        is = u.2;
        old = b.0;
        is_state = b.1;
        keeps_old = u.3;
        none =
            ap pending_of (sym t.idle);
      }

  -- a step is taken back
  pub record StepBack : Type 0 where
    pub last : LastStep goals
    pub old : State
    pub is_state : IsStateOf above spec commands old
    pub keeps_old : Keeps above spec old (last.front ++ without_last last ∷ [])
    pub pends : length last.nodes - length last.links ≡ pending old

  module _ (one : OneRelation above) (fine : IsWellSorted spec) where
    by_command : (last : Command) (old : State) → IsStateOf above spec commands old →
        Accepts above spec old last state → ((name : List ℕ) → last ≡ Goal name → ⊥) → StepBack
    by_command (Goal name) old p a h = absurd (h name refl)
    by_command (Step step) old p a h =
        let l = last_step above one spec fine old state (states_sound above spec commands old p) step a goals keeps in
        record { last = l.0; old = old; is_state = p; keeps_old = l.1; pends = l.2 }
    by_command Undo old p a h = absurd a

    pub step_back : (last : Command) → IsStateOf above spec (commands ++ last ∷ []) state → ((name : List ℕ) →
        last ≡ Goal name → ⊥) → StepBack
    step_back last p h = let b = lead_last above spec start commands state last p in by_command last b.0 b.1 b.2 h
