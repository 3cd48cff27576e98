-- What words ask for, as a value of the code.
use Rattle.std.specs.Prelude.{List, Option, Some, None, option_map}
use Rattle.clap.specs.Words.{Text}
use Rattle.show_words.specs.declared.requests.Command.{Command}
use Rattle.show_words.specs.declared.requests.Request.{Request}
use Rattle.show_words.specs.declared.requests.Request.TheVariants.{Show, Help}
use Rattle.show_words.specs.declared.requests.View.{View as Shown}
use Rattle.show_words.specs.declared.requests.View.TheVariants.{Page, OpenGoals}
use Rattle.show_words.specs.Words.{Task, View, page, open_goals, Asks, AskForHelp, AskNothing}

abbrev pub view_of : Shown → View
view_of (Page form report) = page form report.now
view_of (OpenGoals bounds) = open_goals bounds

abbrev pub task_of : Command → Task
task_of command = record {
  file = command.file.now;
  goal = option_map (λ name. name.now) command.goal;
  view = view_of command.view;
}

-- the words ask for this, or for nothing
abbrev pub IsAsked : List Text → Option Request → Type 0
IsAsked words (Some (Show command)) = Asks words (task_of command)
IsAsked words (Some Help) = AskForHelp words
IsAsked words None = AskNothing words
