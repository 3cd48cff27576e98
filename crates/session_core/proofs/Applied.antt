-- What carrying out answers, of a whole session.
use Rattle.std.proofs.Common.{◌≡◌, List, Err, ◌∙◌, subst}
use Rattle.term_core.specs.Tree.{Tree}
use Rattle.spec_core.specs.declared.records.Spec.{Spec}
use Rattle.spec_core.specs.WellSorted.{IsWellSorted}
use Rattle.clause_core.specs.ClauseLaws.{OneRelation}
use Rattle.session_core.specs.declared.commands.Command.{Command}
use Rattle.session_core.specs.declared.errors.SessionError.{SessionError}
use Rattle.session_core.specs.declared.errors.SessionError.TheVariants.{GoalUnderWork, UnknownGoal, GoalTwice, NoGoal}
use Rattle.session_core.specs.declared.errors.SessionError.TheVariants.{Step as undefined}
use Rattle.session_core.specs.declared.errors.SessionError.TheVariants.{NotSmaller, Limit, OutOfMemory}
use Rattle.session_core.specs.States.{State, start}
use Rattle.session_core.specs.Kept.{Kept}
use Rattle.session_core.specs.Refusals.{IsRefusedFor}
use Rattle.session_core.specs.Sessions.{IsStateOf}
use Rattle.session_core.specs.Taking.{CarriesOut}
use Rattle.session_core.specs.Value.{Applies, SessionValue}
use Rattle.session_core.proofs.OneState.{lead_one}

module _ (above : Tree → Tree → Type 0) (spec : Spec) (fine : IsWellSorted spec) (one : OneRelation above)
    (old new : SessionValue) (command : Command) (state : State) (is : IsStateOf above spec old.commands state)
    (goals : List Kept) (kept : new.goals ≡ goals) (commands : new.commands ≡ old.commands) where
  same : goals ≡ old.goals → new ≡ old
  same e = λ i. record { commands = commands i; goals = (kept ∙ e) i }

  each : (why : SessionError) → IsRefusedFor above spec state command why → (other : State) →
      IsStateOf above spec old.commands other → IsRefusedFor above spec other command why
  each why h other p = subst (λ s. IsRefusedFor above spec s command why) (lead_one above spec one fine start
      old.commands state other is p) h

  -- the command is refused at each state of the commands, and the session stays
  pub applies_error : (why : SessionError) → CarriesOut above spec state command old.goals goals (Err why) →
      Applies above spec old command new (Err why)
  applies_error OutOfMemory h = same h
  applies_error (undefined why) h = (same h.0, each (undefined why) h.1)
  applies_error NotSmaller h = (same h.0, each NotSmaller h.1)
  applies_error Limit h = (same h.0, each Limit h.1)
  applies_error GoalUnderWork h = (same h.0, each GoalUnderWork h.1)
  applies_error UnknownGoal h = (same h.0, each UnknownGoal h.1)
  applies_error GoalTwice h = (same h.0, each GoalTwice h.1)
  applies_error NoGoal h = (same h.0, each NoGoal h.1)
