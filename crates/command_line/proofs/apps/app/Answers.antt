use Rattle.std.proofs.Common.{◌∙◌, ap₂}
use Rattle.clap.specs.Words.{with_rule}
use Rattle.command_line.proofs.Entries.{one_argument_more}
use Rattle.command_line.proofs.apps.app.Goals as goal

pub loop-argument-preserved : goal.loop-argument-preserved
loop-argument-preserved c =
    c.in_ok-app.ensures.shape c.arg.ensures.local
    ∙ ap₂ with_rule c.loop-argument.invariant c.arg.ensures.rule
    ∙ one_argument_more c.args.name.now c.args.takes.now c.loop-argument.argument-index _
    c.loop-argument-test.true
