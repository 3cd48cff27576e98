-- What words ask for: an exploration of a file, help, or nothing.
use Rattle.std.specs.Prelude.{◌≡◌, ◌⊎◌, ◌↔◌, ℕ, Bool, IsTrue, List, [], ◌∷◌, Option, codes}
use Rattle.clap.specs.Words.{App, IsAmong, Row, Text, fault_of, first_of, matches_of, new_app}
use Rattle.clap.specs.declared.error.kind.ErrorKind.TheVariants.{DisplayHelp}
use Rattle.command_line.specs.declared.ranges.NumberRange.{NumberRange}
use Rattle.command_line.specs.Apps.{with_rules}
use Rattle.command_line.specs.Helps.{AreFaulty, BeginWithHelp}
use Rattle.command_line.specs.Matches.{HasNumber, HasWord, IsGiven, Takes}
use Rattle.command_line.specs.Rules.{flag_rule, number_rule, option_rule, word_rule}
use Rattle.command_line.specs.Tasks.{IsNamed}
use Rattle.explore_words.specs.declared.requests.Form.{Form}
use Rattle.explore_words.specs.declared.requests.Form.TheVariants.{Text as WholeText, Report}

-- an exploration of the file of this name, for the goal of a name or for all goals
pub record Task : Type 0 where
  pub form : Form
  pub file : Text
  pub goal : Option Text
  pub work : ℕ
  pub size : ℕ
  pub samples : ℕ
  pub no_lemmas : Bool
  pub quiet : Bool

abbrev pub work_range : NumberRange
work_range = record { least = 0; most = 1000000000 }

abbrev pub size_range : NumberRange
size_range = record { least = 1; most = 12 }

abbrev pub samples_range : NumberRange
samples_range = record { least = 1; most = 200 }

-- `text FILE [--goal NAME] [--work W] [--size S] [--samples N] [--no-lemmas] [--quiet]`, with this
-- command word in the place of `text`
abbrev pub app_named : Text → App
app_named name = with_rules (new_app name)
    (word_rule (codes "FILE") ∷ option_rule (codes "goal")
    ∷ number_rule (codes "work") work_range (codes "1000000")
    ∷ number_rule (codes "size") size_range (codes "7")
    ∷ number_rule (codes "samples") samples_range (codes "30") ∷ flag_rule (codes "no-lemmas")
    ∷ flag_rule (codes "quiet") ∷ [])

abbrev pub command_word : Form → Text
command_word WholeText = codes "text"
command_word Report = codes "report"

abbrev pub app_for : Form → App
app_for form = app_named (command_word form)

-- the matches say which exploration is wanted
pub record Say (rows : List Row) (task : Task) : Type 0 where
  pub file : HasWord rows (codes "FILE") task.file
  pub goal : first_of (codes "goal") rows ≡ task.goal
  pub work : HasNumber rows (codes "work") work_range task.work
  pub size : HasNumber rows (codes "size") size_range task.size
  pub samples : HasNumber rows (codes "samples") samples_range task.samples
  pub no_lemmas : IsTrue task.no_lemmas ↔ IsGiven rows (codes "no-lemmas")
  pub quiet : IsTrue task.quiet ↔ IsGiven rows (codes "quiet")

-- the words ask for this exploration
pub record Asks (words : List Text) (task : Task) : Type 0 where
  pub named : IsNamed (command_word task.form) words
  pub taken : Takes (app_for task.form) words
  pub task_is : Say (matches_of (app_for task.form) words) task

-- the words ask for help: the first one does, or it is a command word and `clap` finds that another does
abbrev pub AskForHelp : List Text → Type 0
AskForHelp words =
    BeginWithHelp words
    ⊎ ((form : Form) × IsNamed (command_word form) words × IsAmong DisplayHelp (fault_of (app_for form) words))

-- the words ask for nothing: the first one doesn't ask for help, and if it is a command word there is a
-- fault in them
pub record AskNothing (words : List Text) : Type 0 where
  pub no_help : BeginWithHelp words → ⊥
  pub refused : (form : Form) → IsNamed (command_word form) words → AreFaulty (app_for form) words
