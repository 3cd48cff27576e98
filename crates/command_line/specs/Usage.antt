-- The line for words that ask for nothing.
use Rattle.std.specs.Prelude.{ℕ, List, ◌++◌, codes, map}
use Rattle.std.specs.List.{join_with_byte}
use Rattle.clap.specs.Words.{App}
use Rattle.command_line.specs.Tasks.{commands}

-- the command words, with `|` between two
abbrev pub usage_line : List ℕ
usage_line =
    codes "usage: spike "
    ++ join_with_byte 124 (map (λ (app : App). app.top.name) commands) ++ codes "\n"
