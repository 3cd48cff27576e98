-- The commands of a text may be written again, so the report that they lead to has a text.
use Rattle.std.proofs.Common.{◌≡◌, ℕ, List, [], ◌∷◌, ◌++◌, subst, arith}
use Rattle.std.specs.Prelude.{Bool}
use Rattle.std.specs.List.{AllByRecursion, AllZip}
use Rattle.term_core.specs.Tree.{Tree}
use Rattle.term_core.proofs.Items.{all_append}
use Rattle.spec_core.specs.declared.records.Spec.{Spec}
use Rattle.spec_core.specs.Sig.{Sig}
use Rattle.proof_script.specs.Claims.{report_text}
use Rattle.proof_script.specs.Faults.{IsOneLine}
use Rattle.proof_script.specs.Texts.{IsReportText}
use Rattle.session_core.specs.declared.commands.Command.{Command}
use Rattle.session_core.specs.declared.commands.Command.TheVariants.{Goal, Step as of_step, Undo}
use Rattle.session_core.specs.CommandText.{Spells, AreCommands}
use Rattle.session_core.specs.Laws.{CommandStands}
use Rattle.session_core.specs.SessionText.{Replies, accepted, refused, taken_back, nothing_to_undo}
use Rattle.session_core.specs.SessionText.{RepliesAll, no_more, then, IsSessionText}
use Rattle.session_core.specs.Sound.{report_of}
use Rattle.session_core.proofs.StandingReports.{reports_stand}

all_before : {A : Type 0} (P : A → Type 0) (xs ys : List A) → AllByRecursion P (xs ++ ys) → AllByRecursion P xs
all_before P [] ys h = tt
all_before P (x ∷ xs) ys h = (h.0, all_before P xs ys h.1)

module _ (sig : Sig) where
  spelled_stands : (line : List ℕ) (command : Command) → Spells sig line command → CommandStands sig command
  spelled_stands line (Goal name) s = s.1
  spelled_stands line (of_step step) s = s.stands
  spelled_stands line Undo s = tt

  all_stand :
      (lines : List (List ℕ)) (commands : List Command) →
      AllZip (λ line command. IsOneLine line × Spells sig line command) lines commands →
      AllByRecursion (CommandStands sig) commands
  all_stand lines [] h = tt
  all_stand [] (c ∷ cs) h = absurd h
  all_stand (l ∷ lines) (c ∷ cs) h = (spelled_stands l c h.0.1, all_stand lines cs h.1)

module _ (above : Tree → Tree → Type 0) (spec : Spec) where
  abbrev Stand : List Command → Type 0
  Stand commands = AllByRecursion (CommandStands spec.sig) commands

  reply_stands :
      {history after : List Command} {command : Command} {line : List ℕ} → Stand history →
      CommandStands spec.sig command → Replies above spec history command line after → Stand after
  reply_stands {history = history} {command = command} h c (accepted old new p a) =
      all_append (CommandStands spec.sig) history (command ∷ []) h (c, tt)
  reply_stands h c (refused state why p r) = h
  reply_stands h c (taken_back {before = before} last state e p) =
      all_before (CommandStands spec.sig) before (last ∷ [])
      (subst (λ (cs : List Command). Stand cs) e h)
  reply_stands h c (nothing_to_undo e) = h

  left_stand :
      {history commands left : List Command} {text : List ℕ} → Stand history → Stand commands →
      RepliesAll above spec history commands text left → Stand left
  left_stand h cs no_more = h
  left_stand h cs (then r rs) = left_stand (reply_stands h cs.0 r) cs.1 rs

  pub written_report_stands :
      (bytes : List ℕ) (commands : List Command) (text : List ℕ) (busy : Bool) →
      AreCommands spec.sig bytes commands → (said : IsSessionText above spec commands text busy) →
      IsReportText spec.sig (report_text spec.sig (report_of 1000 said.state)) (report_of 1000 said.state)
  written_report_stands bytes commands text busy are said =
      reports_stand above spec said.left said.state 1000 said.state_is
      (left_stand tt (all_stand spec.sig are.lines commands are.each) said.replies)
      (omega arith, omega arith)
