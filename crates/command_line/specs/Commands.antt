-- What words ask for, as a value of the code.
use Rattle.std.specs.Prelude.{ℕ, List, Option, Some, None}
use Rattle.command_line.specs.declared.commands.Command.{Command}
use Rattle.command_line.specs.declared.commands.Command.TheVariants.{Refute, Prove, Eval, Check, Replay, Upgrade, Trim}
use Rattle.command_line.specs.declared.commands.Command.TheVariants.{Session}
use Rattle.command_line.specs.declared.commands.Request.{Request}
use Rattle.command_line.specs.declared.commands.Request.TheVariants.{OnFile, Load}
use Rattle.command_line.specs.Tasks.{Task, refuting, proving, evaluating, checking, replaying, upgrading, trimming}
use Rattle.command_line.specs.Tasks.{carrying_out, Asks, AsksToLoad, AskNothing}

abbrev pub file_of : Command → List ℕ
file_of (Refute file bounds) = file.now
file_of (Prove file bounds) = file.now
file_of (Eval file term steps) = file.now
file_of (Check file print) = file.now
file_of (Replay file report) = file.now
file_of (Upgrade file) = file.now
file_of (Trim file report) = file.now
file_of (Session file commands) = file.now

abbrev pub task_of : Command → Task
task_of (Refute file bounds) = refuting bounds
task_of (Prove file bounds) = proving bounds
task_of (Eval file term steps) = evaluating term.now steps
task_of (Check file print) = checking print
task_of (Replay file report) = replaying report.now
task_of (Upgrade file) = upgrading
task_of (Trim file report) = trimming report.now
task_of (Session file commands) = carrying_out commands.now

-- the words ask for this, or for nothing
abbrev pub IsAsked : List (List ℕ) → Option Request → Type 0
IsAsked words (Some (OnFile command)) = Asks words (file_of command) (task_of command)
IsAsked words (Some (Load goals)) = AsksToLoad words goals
IsAsked words None = AskNothing words
