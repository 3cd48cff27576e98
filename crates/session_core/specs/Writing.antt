-- What a session writes, command by command.
use Rattle.std.specs.Prelude.{◌≡◌, ◌≢◌, List, ℕ, ◌++◌}
use Rattle.term_core.specs.Tree.{Tree}
use Rattle.spec_core.specs.declared.records.Spec.{Spec}
use Rattle.session_core.specs.declared.commands.Command.{Command}
use Rattle.session_core.specs.declared.errors.SessionError.{SessionError}
use Rattle.session_core.specs.declared.errors.SessionError.TheVariants.{OutOfMemory}
use Rattle.session_core.specs.declared.texts.Reply.{Reply}
use Rattle.session_core.specs.declared.texts.Reply.TheVariants.{Pending, Refused}
use Rattle.session_core.specs.SessionText.{error_text, ok_line, refused_line, Replies}
use Rattle.session_core.specs.Value.{SessionValue, IsSession}

-- the line of a reply
abbrev pub reply_line : Reply → List ℕ
reply_line (Pending count) = ok_line count
reply_line (Refused why) = refused_line why.now

-- the words for a reason, which isn't want of memory
abbrev pub IsRefusalText : SessionError → List ℕ → Type 0
IsRefusalText error text = (error ≢ OutOfMemory) × (text ≡ error_text error)

module _ (above : Tree → Tree → Type 0) (spec : Spec) (old : SessionValue) (command : Command)
    (new : SessionValue) where
  -- the command gets this reply, and the session goes on
  pub record RepliesBy (reply : Reply) : Type 0 where
    pub session : IsSession above spec new
    pub line : Replies above spec old.commands command (reply_line reply) new.commands

  -- the line that the command gets is appended, and the session goes on
  pub record AppendsReply (before after : List ℕ) : Type 0 where
    pub reply : Reply
    pub by : RepliesBy reply
    pub appended : after ≡ before ++ reply_line reply
