-- What a session writes for each of its commands.
use Rattle.std.specs.Prelude.{◌≡◌, ℕ, List, [], ◌∷◌, ◌++◌, codes, Option, Some, None, Bool, true, false}
use Rattle.std.specs.Fmt.{decimal}
use Rattle.term_core.specs.Tree.{Tree}
use Rattle.spec_core.specs.declared.records.Spec.{Spec}
use Rattle.reply_lines.specs.Lines.{step_text}
use Rattle.proof_script.specs.Claims.{report_text}
use Rattle.session_core.specs.declared.commands.Command.{Command}
use Rattle.session_core.specs.declared.commands.Command.TheVariants.{Undo}
use Rattle.session_core.specs.declared.errors.SessionError.{SessionError}
use Rattle.session_core.specs.declared.errors.SessionError.TheVariants.{GoalUnderWork, UnknownGoal, GoalTwice, NoGoal}
use Rattle.session_core.specs.declared.errors.SessionError.TheVariants.{Step, NotSmaller, Limit, OutOfMemory}
use Rattle.session_core.specs.States.{State, Work, pending}
use Rattle.session_core.specs.Accepting.{Accepts}
use Rattle.session_core.specs.Refusals.{IsRefusedFor}
use Rattle.session_core.specs.Sessions.{IsStateOf}
use Rattle.session_core.specs.Sound.{report_of}

-- the words for each reason
abbrev pub error_text : SessionError → List ℕ
error_text GoalUnderWork = codes "goal under work"
error_text UnknownGoal = codes "unknown goal"
error_text GoalTwice = codes "goal twice"
error_text NoGoal = codes "no goal"
error_text (Step why) = step_text why
error_text NotSmaller = codes "not smaller"
error_text Limit = codes "limit"
error_text OutOfMemory = codes "out of memory"

-- `ok P`, with how many nodes are pending, and `refused WHY`
abbrev pub ok_line : ℕ → List ℕ
ok_line count = codes "ok " ++ (decimal count ++ codes "\n")

abbrev pub refused_line : List ℕ → List ℕ
refused_line why = codes "refused " ++ (why ++ codes "\n")

-- whether a goal is under work
abbrev pub is_open : Option Work → Bool
is_open None = false
is_open (Some work) = true

module _ (above : Tree → Tree → Type 0) (spec : Spec) where
  -- the line that a command gets, if these are the accepted commands that aren't taken back, and
  -- those after it
  pub data Replies (history : List Command) : Command → List ℕ → List Command → Type 0 where
    accepted : {command : Command} (old new : State)
        → IsStateOf above spec history old → Accepts above spec old command new
        → Replies history command (ok_line (pending new)) (history ++ command ∷ [])
    refused : {command : Command} (state : State) (why : SessionError)
        → IsStateOf above spec history state → IsRefusedFor above spec state command why
        → Replies history command (refused_line (error_text why)) history
    taken_back : {before : List Command} (last : Command) (state : State)
        → history ≡ before ++ last ∷ [] → IsStateOf above spec before state
        → Replies history Undo (ok_line (pending state)) before
    nothing_to_undo : history ≡ []
        → Replies history Undo (refused_line (codes "nothing to undo")) history

  -- the lines of the commands one after the other, and what is left of them
  pub data RepliesAll : List Command → List Command → List ℕ → List Command → Type 0 where
    no_more : {history : List Command} → RepliesAll history [] [] history
    then : {history commands after left : List Command} {command : Command} {line text : List ℕ}
        → Replies history command line after → RepliesAll after commands text left
        → RepliesAll history (command ∷ commands) (line ++ text) left

  -- the whole text of a session: the lines of its commands, and the report of the last state, if
  -- the evaluation of a side may cost a thousand rule uses
  pub record IsSessionText (commands : List Command) (text : List ℕ) (open_at_end : Bool) : Type 0
    where
      pub lines : List ℕ
      pub left : List Command
      pub replies : RepliesAll [] commands lines left
      pub state : State
      pub state_is : IsStateOf above spec left state
      pub is : text ≡ lines ++ report_text spec.sig (report_of 1000 state)
      pub ends : open_at_end ≡ is_open state.work
