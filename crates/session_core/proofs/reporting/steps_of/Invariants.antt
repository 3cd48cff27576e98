use Rattle.std.proofs.Common.{◌≡◌, take}
use Rattle.session_core.specs.Written.{step_commands}
use Rattle.session_core.proofs.reporting.steps_of.Given as goal

abbrev pub invariant-loop-command : goal.invariant-loop-command
invariant-loop-command l = take l.command-index l.commands ≡ step_commands l.steps
