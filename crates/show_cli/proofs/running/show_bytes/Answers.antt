use Rattle.file_replies.proofs.Reported.{has_reports}
use Rattle.show_words.specs.Requests.{task_of}
use Rattle.show_cli.specs.Ends.{further_files}
use Rattle.show_cli.proofs.Askings.{asked_on}
use Rattle.show_cli.proofs.Endings.{refused_means, finished_means, stopped_means}
use Rattle.show_cli.proofs.running.show_bytes.Goals as goal

pub returns-in-Ok-show_spec-clause-means : goal.returns-in-Ok-show_spec-clause-means
returns-in-Ok-show_spec-clause-means g c =
    let r = c.in-Ok-show_spec.ensures.finishes in
    finished_means (g.F.Files.held c.args.files.now) (task_of c.args.command.now) c.args.bytes.now
    _ _ _ _ _ _ c.in-Ok.accepted.raw c.in-Ok.accepted.admitted.spec c.in-Ok.ensures.accepted
    c.in-Ok-show_spec.status r.0 r.1 r.2

pub returns-in-Ok-clause-means : goal.returns-in-Ok-clause-means
returns-in-Ok-clause-means g c =
    stopped_means (g.F.Files.held c.args.files.now) (task_of c.args.command.now) c.args.bytes.now
    _ _ _ _ _ _ c.in-Ok.accepted.raw c.in-Ok.accepted.admitted.spec c.in-Ok.ensures.accepted
    c.in-Err-show_spec.stop c.status.result c.in-Err-show_spec.ensures.finishes
    c.status.ensures

pub returns-clause-means : goal.returns-clause-means
returns-clause-means g c =
    refused_means (g.F.Files.held c.args.files.now) (task_of c.args.command.now) c.args.bytes.now
    _ _ _ _ _ _ c.in-Err.refusal c.in-Err.ensures.refused c.refuse.result c.refuse.ensures.refuses

pub show_spec-requires-clause-reported : goal.show_spec-requires-clause-reported
show_spec-requires-clause-reported g c =
    has_reports c.args.bytes.now c.in-Ok.accepted.raw c.in-Ok.accepted.admitted.spec
    c.in-Ok.ensures.accepted

pub returns-in-Ok-show_spec-clause-asked : goal.returns-in-Ok-show_spec-clause-asked
returns-in-Ok-show_spec-clause-asked g c =
    asked_on c.args.bytes.now (further_files (task_of c.args.command.now).view)
    (g.F.Files.asked c.args.files.now) (g.F.Files.asked c.show_spec.new.files)
    (c.in-Ok.accepted.raw, c.in-Ok.accepted.admitted.spec, c.in-Ok.ensures.accepted)
    c.show_spec.ensures.asked

pub returns-in-Ok-clause-asked : goal.returns-in-Ok-clause-asked
returns-in-Ok-clause-asked g c =
    asked_on c.args.bytes.now (further_files (task_of c.args.command.now).view)
    (g.F.Files.asked c.args.files.now) (g.F.Files.asked c.show_spec.new.files)
    (c.in-Ok.accepted.raw, c.in-Ok.accepted.admitted.spec, c.in-Ok.ensures.accepted)
    c.show_spec.ensures.asked
