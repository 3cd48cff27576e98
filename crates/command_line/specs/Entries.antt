-- The table of commands, as `clap` sees it.
use Rattle.std.specs.Prelude.{◌≡◌, ◌≢◌, List, codes, map}
use Rattle.std.specs.List.{AllByRecursion}
use Rattle.clap.specs.Words.{App, Row, Rule, Text, new_app}
use Rattle.command_line.specs.declared.commands.Request.{Request}
use Rattle.command_line.specs.declared.commands.Request.TheVariants.{OnFile, Load as load}
use Rattle.command_line.specs.declared.table.Argument.{Argument}
use Rattle.command_line.specs.declared.table.Argument.TheVariants.{File, Term, Report, Commands, Goals, Print, Depth}
use Rattle.command_line.specs.declared.table.Argument.TheVariants.{Tries, Steps, Plain, Nodes}
use Rattle.command_line.specs.declared.table.CommandWord.{CommandWord}
use Rattle.command_line.specs.declared.table.CommandWord.TheVariants.{Check, Eval, Prove, Refute, Replay, Load}
use Rattle.command_line.specs.declared.table.CommandWord.TheVariants.{Upgrade, Trim, Session}
use Rattle.command_line.specs.Ranges.{goals_range}
use Rattle.command_line.specs.Rules.{word_rule, numeral_rule, flag_rule}
use Rattle.command_line.specs.Apps.{with_rules, depth_rule, tries_rule, steps_rule, plain_rule, nodes_rule}
use Rattle.command_line.specs.Apps.{check_app, eval_app, prove_app, refute_app, replay_app, load_app}
use Rattle.command_line.specs.Apps.{upgrade_app, trim_app, session_app}
use Rattle.command_line.specs.Matches.{HasNumber, HasWord}
use Rattle.command_line.specs.Tasks.{Say, app_for, commands}
use Rattle.command_line.specs.Commands.{file_of, task_of}

abbrev pub rule_of_argument : Argument → Rule
rule_of_argument File = word_rule (codes "FILE")
rule_of_argument Term = word_rule (codes "TERM")
rule_of_argument Report = word_rule (codes "REPORT")
rule_of_argument Commands = word_rule (codes "COMMANDS")
rule_of_argument Goals = numeral_rule (codes "N") goals_range
rule_of_argument Print = flag_rule (codes "print")
rule_of_argument Depth = depth_rule
rule_of_argument Tries = tries_rule
rule_of_argument Steps = steps_rule
rule_of_argument Plain = plain_rule
rule_of_argument Nodes = nodes_rule

-- the command of this name that takes this
abbrev pub app_taking : Text → List Argument → App
app_taking name takes = with_rules (new_app name) (map rule_of_argument takes)

abbrev pub app_of_word : CommandWord → App
app_of_word Check = check_app
app_of_word Eval = eval_app
app_of_word Prove = prove_app
app_of_word Refute = refute_app
app_of_word Replay = replay_app
app_of_word Load = load_app
app_of_word Upgrade = upgrade_app
app_of_word Trim = trim_app
app_of_word Session = session_app

-- the name is that of a command, which takes this
pub record IsEntry (name : Text) (word : CommandWord) (takes : List Argument) : Type 0 where
  pub named : (app_of_word word).top.name ≡ name
  pub taking : app_taking name takes ≡ app_of_word word

-- no command has this name
abbrev pub NamesNone : Text → Type 0
NamesNone name = AllByRecursion (λ (app : App). name ≢ app.top.name) commands

-- the request is one of this command, and is what the matches say
abbrev pub IsRequestOf : CommandWord → List Row → Request → Type 0
IsRequestOf word rows (OnFile command) =
    (app_for (task_of command) ≡ app_of_word word) × HasWord rows (codes "FILE") (file_of command)
    × Say rows (task_of command)
IsRequestOf word rows (load goals) =
    (load_app ≡ app_of_word word) × HasNumber rows (codes "N") goals_range goals
