-- The simple command of each command word, as `clap` sees it.
use Rattle.std.specs.Prelude.{List, [], ◌∷◌, codes}
use Rattle.clap.specs.Words.{App, Rule, new_app, with_rule}
use Rattle.command_line.specs.Ranges.{depth_range, tries_range, steps_range, plain_range, nodes_range, goals_range}
use Rattle.command_line.specs.Rules.{word_rule, numeral_rule, number_rule, flag_rule}

-- a command with these arguments
abbrev pub with_rules : App → List Rule → App
with_rules app [] = app
with_rules app (rule ∷ rules) = with_rules (with_rule app rule) rules

abbrev pub depth_rule : Rule
depth_rule = number_rule (codes "depth") depth_range (codes "3")

abbrev pub tries_rule : Rule
tries_rule = number_rule (codes "tries") tries_range (codes "10000")

abbrev pub steps_rule : Rule
steps_rule = number_rule (codes "steps") steps_range (codes "1000")

abbrev pub plain_rule : Rule
plain_rule = number_rule (codes "plain") plain_range (codes "500")

abbrev pub nodes_rule : Rule
nodes_rule = number_rule (codes "nodes") nodes_range (codes "2000")

-- `refute FILE [--depth D] [--tries T] [--steps B]`
abbrev pub refute_app : App
refute_app = with_rules (new_app (codes "refute"))
    (word_rule (codes "FILE") ∷ depth_rule ∷ tries_rule ∷ steps_rule ∷ [])

-- `prove FILE [--depth D] [--tries T] [--steps B] [--plain L] [--nodes K]`
abbrev pub prove_app : App
prove_app = with_rules (new_app (codes "prove"))
    (word_rule (codes "FILE") ∷ depth_rule ∷ tries_rule ∷ steps_rule ∷ plain_rule ∷ nodes_rule ∷ [])

-- `eval FILE TERM [--steps B]`
abbrev pub eval_app : App
eval_app = with_rules (new_app (codes "eval"))
    (word_rule (codes "FILE") ∷ word_rule (codes "TERM") ∷ steps_rule ∷ [])

-- `check FILE [--print]`
abbrev pub check_app : App
check_app = with_rules (new_app (codes "check"))
    (word_rule (codes "FILE") ∷ flag_rule (codes "print") ∷ [])

-- `replay FILE REPORT`
abbrev pub replay_app : App
replay_app = with_rules (new_app (codes "replay"))
    (word_rule (codes "FILE") ∷ word_rule (codes "REPORT") ∷ [])

-- `upgrade FILE`
abbrev pub upgrade_app : App
upgrade_app = with_rules (new_app (codes "upgrade")) (word_rule (codes "FILE") ∷ [])

-- `load N`
abbrev pub load_app : App
load_app = with_rules (new_app (codes "load")) (numeral_rule (codes "N") goals_range ∷ [])

-- `trim FILE REPORT`
abbrev pub trim_app : App
trim_app = with_rules (new_app (codes "trim"))
    (word_rule (codes "FILE") ∷ word_rule (codes "REPORT") ∷ [])

-- `session FILE COMMANDS`
abbrev pub session_app : App
session_app = with_rules (new_app (codes "session"))
    (word_rule (codes "FILE") ∷ word_rule (codes "COMMANDS") ∷ [])
