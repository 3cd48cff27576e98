use Rattle.command_line.specs.Commands.{task_of}
use Rattle.spec_grammar.proofs.KeepsLimits.{keeps_limits}
use Rattle.file_replies.proofs.Reported.{has_reports}
use Rattle.spike_cli.proofs.Endings.{refused_means, finished_means, stopped_means}
use Rattle.spike_cli.proofs.running.carry_out.Goals as goal

pub returns-in-Ok-finish-clause-means : goal.returns-in-Ok-finish-clause-means
returns-in-Ok-finish-clause-means g c =
    let r = c.in-Ok-finish.ensures.finishes in
    finished_means (g.F.Files.held c.args.files.now) (task_of c.args.command.now) c.args.bytes.now _ _ _ _ _ _
    c.in-Ok.accepted.raw c.in-Ok.accepted.admitted.spec c.in-Ok.ensures.accepted c.in-Ok-finish.status r.0 r.1 r.2

pub returns-in-Ok-clause-means : goal.returns-in-Ok-clause-means
returns-in-Ok-clause-means g c =
    stopped_means (g.F.Files.held c.args.files.now) (task_of c.args.command.now) c.args.bytes.now _ _ _ _ _ _
    c.in-Ok.accepted.raw c.in-Ok.accepted.admitted.spec c.in-Ok.ensures.accepted c.in-Err-finish.stop
    c.status.result c.in-Err-finish.ensures.finishes c.status.ensures

pub returns-clause-means : goal.returns-clause-means
returns-clause-means g c =
    refused_means (g.F.Files.held c.args.files.now) (task_of c.args.command.now) c.args.bytes.now _ _ _ _ _ _
    c.in-Err.refusal c.in-Err.ensures.refused c.refuse.result c.refuse.ensures.refuses

pub finish-requires-clause-reported : goal.finish-requires-clause-reported
finish-requires-clause-reported g c = has_reports c.args.bytes.now c.in-Ok.accepted.raw
    c.in-Ok.accepted.admitted.spec c.in-Ok.ensures.accepted

pub finish-requires-clause-limits : goal.finish-requires-clause-limits
finish-requires-clause-limits g c = keeps_limits c.args.bytes.now c.in-Ok.accepted.raw c.in-Ok.ensures.accepted.derived
