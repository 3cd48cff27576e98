-- The line that a command gets, and the text of a session so far.
use Rattle.std.proofs.Common.{◌≡◌, ◌≢◌, ℕ, List, [], ◌∷◌, ◌++◌, refl, sym, ◌∙◌, ap, subst, append_assoc}
use Rattle.std.proofs.Common.{append-nil}
use Rattle.std.specs.Prelude.{Result, Ok, Err, codes}
use Rattle.term_core.specs.Tree.{Tree}
use Rattle.spec_core.specs.declared.records.Spec.{Spec}
use Rattle.session_core.specs.declared.commands.Command.{Command}
use Rattle.session_core.specs.declared.commands.Command.TheVariants.{Undo}
use Rattle.session_core.specs.declared.errors.SessionError.{SessionError}
use Rattle.session_core.specs.declared.errors.SessionError.TheVariants.{GoalUnderWork, UnknownGoal}
use Rattle.session_core.specs.declared.errors.SessionError.TheVariants.{GoalTwice, NoGoal}
use Rattle.session_core.specs.declared.errors.SessionError.TheVariants.{Step, NotSmaller, Limit, OutOfMemory}
use Rattle.session_core.specs.declared.errors.UndoError.{UndoError}
use Rattle.session_core.specs.States.{State, start, pending}
use Rattle.session_core.specs.Accepting.{Accepts}
use Rattle.session_core.specs.Refusals.{IsRefusedFor}
use Rattle.session_core.specs.SessionText.{error_text, ok_line, refused_line}
use Rattle.session_core.specs.SessionText.{Replies, accepted, refused, taken_back, nothing_to_undo}
use Rattle.session_core.specs.SessionText.{RepliesAll, no_more, then}
use Rattle.session_core.specs.Sessions.{IsStateOf}
use Rattle.session_core.specs.Kept.{Keeps}
use Rattle.session_core.specs.Value.{SessionValue, IsSession, Applies, Undoes}
use Rattle.session_core.proofs.OneState.{lead_last}

module _ (above : Tree → Tree → Type 0) (spec : Spec) where
  -- one command more, after the others
  pub replies_more :
      {history commands left after : List Command} {text line : List ℕ} {command : Command} →
      RepliesAll above spec history commands text left → Replies above spec left command line after →
      RepliesAll above spec history (commands ++ command ∷ []) (text ++ line) after
  replies_more {history = history} {after = after} {line = line} {command = command} no_more r =
      subst (λ t. RepliesAll above spec history (command ∷ []) t after) (append-nil line) (then r no_more)
  replies_more {after = after} {line = line} {command = command}
      (then {history = history} {commands = commands} {command = first} {line = front} {text = rest} r rs) s =
      subst (λ t. RepliesAll above spec history (first ∷ (commands ++ command ∷ [])) t after)
      (sym (append_assoc front rest line)) (then r (replies_more rs s))

  -- a session without commands
  pub new_session :
      (session : SessionValue) → session.commands ≡ [] → session.goals ≡ [] → IsSession above spec session
  new_session session commands goals = record {
    state = start;
    is_state = subst (λ cs. IsStateOf above spec cs start) (sym commands) refl;
    keeps =
        subst (λ gs. Keeps above spec start gs) (sym goals) (record {
          finished = [];
          last = [];
          is = refl;
          claims = tt;
          work = tt;
        });
  }

  pub nothing_written :
      (text : List ℕ) (left : List Command) → text ≡ [] → left ≡ [] → RepliesAll above spec [] [] text left
  nothing_written text left none no_commands =
      subst (λ cs. RepliesAll above spec [] [] text cs) (sym no_commands)
      (subst (λ t. RepliesAll above spec [] [] t []) (sym none) no_more)

  module _ (old : SessionValue) (its : IsSession above spec old) (new : SessionValue) where
    abbrev RepliesIn : Command → List ℕ → Type 0
    RepliesIn command line = Replies above spec old.commands command line new.commands

    -- a command that is carried out
    pub accepted_reply :
        (command : Command) (count : ℕ) → Applies above spec old command new (Ok count) →
        RepliesIn command (ok_line count)
    accepted_reply command count a =
        let s = a.1.0 in
        let lead = subst (λ cs. IsStateOf above spec cs s.state) a.0 s.is_state in
        let b = lead_last above spec start old.commands s.state command lead in
        subst (λ cs. Replies above spec old.commands command (ok_line count) cs) (sym a.0)
        (subst (λ n. Replies above spec old.commands command (ok_line n) (old.commands ++ command ∷ []))
        (sym a.1.1) (accepted b.0 s.state b.1 b.2))

    -- one that isn't
    refused_so :
        (command : Command) (why : SessionError) → new ≡ old →
        ((state : State) → IsStateOf above spec old.commands state →
        IsRefusedFor above spec state command why) →
        RepliesIn command (refused_line (error_text why))
    refused_so command why same r =
        subst (λ (v : SessionValue). Replies above spec old.commands command
        (refused_line (error_text why)) v.commands) (sym same)
        (refused its.state why its.is_state (r its.state its.is_state))

    pub refused_reply :
        (command : Command) (why : SessionError) → why ≢ OutOfMemory →
        Applies above spec old command new (Err why) → RepliesIn command (refused_line (error_text why))
    refused_reply command GoalUnderWork n a = refused_so command GoalUnderWork a.0 a.1
    refused_reply command UnknownGoal n a = refused_so command UnknownGoal a.0 a.1
    refused_reply command GoalTwice n a = refused_so command GoalTwice a.0 a.1
    refused_reply command NoGoal n a = refused_so command NoGoal a.0 a.1
    refused_reply command (Step why) n a = refused_so command (Step why) a.0 a.1
    refused_reply command NotSmaller n a = refused_so command NotSmaller a.0 a.1
    refused_reply command Limit n a = refused_so command Limit a.0 a.1
    refused_reply command OutOfMemory n a = absurd (n refl)

    pub session_after_refusal :
        (command : Command) (why : SessionError) → Applies above spec old command new (Err why) →
        IsSession above spec new
    session_after_refusal command GoalUnderWork a = subst (λ v. IsSession above spec v) (sym a.0) its
    session_after_refusal command UnknownGoal a = subst (λ v. IsSession above spec v) (sym a.0) its
    session_after_refusal command GoalTwice a = subst (λ v. IsSession above spec v) (sym a.0) its
    session_after_refusal command NoGoal a = subst (λ v. IsSession above spec v) (sym a.0) its
    session_after_refusal command (Step why) a = subst (λ v. IsSession above spec v) (sym a.0) its
    session_after_refusal command NotSmaller a = subst (λ v. IsSession above spec v) (sym a.0) its
    session_after_refusal command Limit a = subst (λ v. IsSession above spec v) (sym a.0) its
    session_after_refusal command OutOfMemory a = subst (λ v. IsSession above spec v) (sym a) its

    -- the last command is taken back, or there is none
    pub undone_reply :
        (count : ℕ) → Undoes above spec old new (Ok count) → RepliesIn Undo (ok_line count)
    undone_reply count u =
        let s = u.1.0 in
        subst (λ n. RepliesIn Undo (ok_line n)) (sym u.1.1) (taken_back u.0.0 s.state u.0.1 s.is_state)

    pub nothing_reply :
        (error : UndoError) → Undoes above spec old new (Err error) →
        RepliesIn Undo (refused_line (codes "nothing to undo"))
    nothing_reply error u =
        subst (λ (v : SessionValue). Replies above spec old.commands Undo
        (refused_line (codes "nothing to undo")) v.commands) (sym u.1) (nothing_to_undo u.0)
