use Rattle.std.proofs.Common.{◌≡◌, take}
use Rattle.clap.specs.Words.{app_of}
use Rattle.command_line.specs.Entries.{app_taking}
use Rattle.command_line.proofs.apps.app.Given as goal

abbrev pub invariant-loop-argument : goal.invariant-loop-argument
invariant-loop-argument l = app_of l.app ≡ app_taking l.name (take l.argument-index l.takes)
