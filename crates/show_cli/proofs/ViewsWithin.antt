-- The words give the bounds of a search within their ranges.
use Rattle.std.specs.Prelude.{List}
use Rattle.clap.specs.Words.{Row, Text, matches_of}
use Rattle.show_words.specs.Words.{Task, View, page, open_goals, Asks, SayView, app_for, word_of}
use Rattle.show_cli.specs.Ends.{IsWithin}

said_within : (rows : List Row) (v : View) → SayView rows v → IsWithin v
said_within rows (page form report) says = tt
said_within rows (open_goals bounds) says = says.plain.most

pub view_within : (words : List Text) (task : Task) → Asks words task → IsWithin task.view
view_within words task asks =
    said_within (matches_of (app_for (word_of task.view)) words) task.view asks.task_is.view
