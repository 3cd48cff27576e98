-- What words ask for, as a value of the code.
use Rattle.std.specs.Prelude.{List, Option, Some, None, option_map}
use Rattle.clap.specs.Words.{Text}
use Rattle.explore_words.specs.declared.requests.Command.{Command}
use Rattle.explore_words.specs.declared.requests.Request.{Request}
use Rattle.explore_words.specs.declared.requests.Request.TheVariants.{Explore, Help}
use Rattle.explore_words.specs.Words.{Task, Asks, AskForHelp, AskNothing}

abbrev pub task_of : Command → Task
task_of command = record {
  form = command.form;
  file = command.file.now;
  goal = option_map (λ name. name.now) command.goal;
  work = command.work;
  size = command.size;
  samples = command.samples;
  no_lemmas = command.no_lemmas;
  quiet = command.quiet;
}

-- the words ask for this, or for nothing
abbrev pub IsAsked : List Text → Option Request → Type 0
IsAsked words (Some (Explore command)) = Asks words (task_of command)
IsAsked words (Some Help) = AskForHelp words
IsAsked words None = AskNothing words
