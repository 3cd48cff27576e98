use Rattle.std.proofs.Common.{◌≡◌, length}
use Rattle.session_core.proofs.ReadLines.{HasRead}
use Rattle.session_core.proofs.reading.read_commands.Given as goal

-- the lines so far are read, as these commands
abbrev pub invariant-loop-number : goal.invariant-loop-number
invariant-loop-number l =
    HasRead l.sig l.bytes l.rest l.commands.items × (length l.commands.items ≡ l.number)
