-- The text of commands, one a line, and the first line that is at fault.
use Rattle.std.specs.Prelude.{◌≡◌, ◌≢◌, ◌+◌, ◌≤◌, ℕ, List, [], ◌++◌, codes, length}
use Rattle.std.specs.List.{AllByRecursion, AllZip}
use Rattle.spec_core.specs.Sig.{Sig}
use Rattle.proof_script.specs.Faults.{IsOneLine, whole_lines}
use Rattle.proof_script.specs.LineWords.{IsStepLine}
use Rattle.proof_script.specs.Names.{IsReportName}
use Rattle.session_core.specs.declared.commands.Command.{Command}
use Rattle.session_core.specs.declared.commands.Command.TheVariants.{Goal, Step, Undo}
use Rattle.session_core.specs.declared.errors.CommandError.{CommandError}
use Rattle.session_core.specs.declared.errors.CommandError.TheVariants.{Line, OutOfMemory}

-- the greatest number of commands
abbrev pub most_commands : ℕ
most_commands = 100000

module _ (sig : Sig) where
  -- the line, without its newline, spells the command: `goal NAME`, a line of a step, or `undo`
  abbrev pub Spells : List ℕ → Command → Type 0
  Spells line (Goal name) = (line ≡ codes "goal " ++ name) × IsReportName name
  Spells line (Step step) = IsStepLine sig line step
  Spells line Undo = line ≡ codes "undo"

  abbrev pub SpellsSome : List ℕ → Type 0
  SpellsSome line = (command : Command) × Spells line command

  -- the bytes are lines, each with its newline, and each spells the command of its place
  pub record AreCommands (bytes : List ℕ) (commands : List Command) : Type 0 where
    pub lines : List (List ℕ)
    pub whole : bytes ≡ whole_lines lines
    pub each : AllZip (λ line command. IsOneLine line × Spells line command) lines commands
    pub few : length commands ≤ most_commands

  -- after the lines before, the rest is a line that has no newline, one that spells no command, or
  -- one line too many
  pub data IsStuck (before : List (List ℕ)) (rest : List ℕ) : Type 0 where
    not_ended : rest ≢ [] → IsOneLine rest → IsStuck before rest
    strange : (line after : List ℕ) → rest ≡ (line ++ codes "\n") ++ after → IsOneLine line
        → (SpellsSome line → ⊥) → IsStuck before rest
    too_many : rest ≢ [] → length before ≡ most_commands → IsStuck before rest

  -- the line with this number, which counts from 1, is the first that isn't a command or isn't ended,
  -- or is one too many
  pub record IsFaultyCommand (bytes : List ℕ) (number : ℕ) : Type 0 where
    pub before : List (List ℕ)
    pub rest : List ℕ
    pub whole : bytes ≡ whole_lines before ++ rest
    pub each : AllByRecursion (λ line. IsOneLine line × SpellsSome line) before
    pub few : length before ≤ most_commands
    pub place : number ≡ length before + 1
    pub stuck : IsStuck before rest

  -- the error names the faulty line, or is want of memory
  abbrev pub TellsFault : List ℕ → CommandError → Type 0
  TellsFault bytes (Line number) = IsFaultyCommand bytes number
  TellsFault bytes OutOfMemory = Unit {0}
