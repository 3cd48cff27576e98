-- What words ask for: what is shown of a file, help, or nothing.
use Rattle.std.specs.Prelude.{◌≡◌, ◌⊎◌, List, [], ◌∷◌, Option, codes}
use Rattle.clap.specs.Words.{App, IsAmong, Row, Text, fault_of, first_of, matches_of, new_app}
use Rattle.clap.specs.declared.error.kind.ErrorKind.TheVariants.{DisplayHelp}
use Rattle.command_line.specs.Apps.{with_rules, depth_rule, tries_rule, steps_rule, plain_rule, nodes_rule}
use Rattle.command_line.specs.Helps.{AreFaulty, BeginWithHelp}
use Rattle.command_line.specs.Matches.{HasWord, Takes}
use Rattle.command_line.specs.Rules.{option_rule, word_rule}
use Rattle.command_line.specs.Tasks.{AreProofBounds, IsNamed}
use Rattle.command_line.specs.declared.bounds.ProofBounds.{ProofBounds}
use Rattle.page_core.specs.declared.parts.Format.{Format}
use Rattle.page_core.specs.declared.parts.Format.TheVariants.{Html, Text as PlainText}
use Rattle.show_words.specs.declared.requests.CommandWord.{CommandWord}
use Rattle.show_words.specs.declared.requests.CommandWord.TheVariants.{Page, Open}

-- what is shown: a page of the report of this name, or where the proofs of the goals stop that are left
-- open within these bounds
pub data View : Type 0 where
  page : (form : Format) (report : Text) → View
  open_goals : (bounds : ProofBounds) → View

-- this is shown of the file of this name: of the goal of a name, or of all goals
pub record Task : Type 0 where
  pub file : Text
  pub goal : Option Text
  pub view : View

-- `page FILE REPORT [--goal NAME]`, with this command word in the place of `page`
abbrev pub page_app : Text → App
page_app name = with_rules (new_app name)
    (word_rule (codes "FILE") ∷ word_rule (codes "REPORT") ∷ option_rule (codes "goal") ∷ [])

-- `open FILE [--goal NAME] [--depth D] [--tries T] [--steps B] [--plain L] [--nodes K]`, with this command
-- word in the place of `open`
abbrev pub open_app : Text → App
open_app name = with_rules (new_app name)
    (word_rule (codes "FILE") ∷ option_rule (codes "goal") ∷ depth_rule ∷ tries_rule ∷ steps_rule
    ∷ plain_rule ∷ nodes_rule ∷ [])

-- the command of this name with the arguments of a command word
abbrev pub app_named : CommandWord → Text → App
app_named (Page form) name = page_app name
app_named Open name = open_app name

abbrev pub word_text : CommandWord → Text
word_text (Page Html) = codes "page"
word_text (Page PlainText) = codes "text"
word_text Open = codes "open"

abbrev pub app_for : CommandWord → App
app_for word = app_named word (word_text word)

-- the command word that asks for it
abbrev pub word_of : View → CommandWord
word_of (page form report) = Page form
word_of (open_goals bounds) = Open

-- the matches say what is shown
abbrev pub SayView : List Row → View → Type 0
SayView rows (page form report) = HasWord rows (codes "REPORT") report
SayView rows (open_goals bounds) = AreProofBounds rows bounds

-- the matches say what is shown of which file and goals
pub record Say (rows : List Row) (task : Task) : Type 0 where
  pub file : HasWord rows (codes "FILE") task.file
  pub goal : first_of (codes "goal") rows ≡ task.goal
  pub view : SayView rows task.view

-- the words ask for this
pub record Asks (words : List Text) (task : Task) : Type 0 where
  pub named : IsNamed (word_text (word_of task.view)) words
  pub taken : Takes (app_for (word_of task.view)) words
  pub task_is : Say (matches_of (app_for (word_of task.view)) words) task

-- the words ask for help: the first one does, or it is a command word and `clap` finds that another does
abbrev pub AskForHelp : List Text → Type 0
AskForHelp words =
    BeginWithHelp words
    ⊎ ((word : CommandWord) × IsNamed (word_text word) words × IsAmong DisplayHelp (fault_of (app_for word) words))

-- the words ask for nothing: the first one doesn't ask for help, and if it is a command word there is a
-- fault in them
pub record AskNothing (words : List Text) : Type 0 where
  pub no_help : BeginWithHelp words → ⊥
  pub refused : (word : CommandWord) → IsNamed (word_text word) words → AreFaulty (app_for word) words
