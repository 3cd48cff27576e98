use Rattle.std.proofs.Common.{◌≡◌, subst, sym}
use Rattle.file_replies.specs.declared.statuses.Status.TheVariants.{Done}
use Rattle.file_replies.specs.Stops.{Finishes, stop_of}
use Rattle.file_replies.proofs.Pieces.{at_error, piece_stopped}
use Rattle.show_words.specs.Requests.{task_of}
use Rattle.show_cli.specs.OpenTexts.{IsOpenText}
use Rattle.show_cli.proofs.viewing.write_open.Goals as goal

pub returns-in_err-write_all-clause-finishes : goal.returns-in_err-write_all-clause-finishes
returns-in_err-write_all-clause-finishes g c =
    let spec = c.args.admitted.now.spec in
    let task = task_of c.args.command.now in
    let bounds = c.args.bounds in
    let old = g.S.Sink.written c.args.out.now in
    let new = g.S.Sink.written c.write_all.new.out in
    let writes = g.S.Sink.faults c.args.out.now in
    let writes' = g.S.Sink.faults c.write_all.new.out in
    let error = c.in_err-write_all.field-0.0 in
    let e = c.in_err-write_all.ensures in
    let is =
    subst (λ t. IsOpenText spec task.file task.goal bounds t) (sym c.deref.ensures.value)
    c.in_ok-text.ensures in
    at_error
    (Finishes old new writes writes'
    (λ text s. IsOpenText spec task.file task.goal bounds text × (s ≡ Done))
    (IsOpenText spec task.file task.goal bounds))
    c.from_residual-in_err-write_all.result (stop_of error) c.from_residual-in_err-write_all.ensures.1
    (piece_stopped (IsOpenText spec task.file task.goal bounds) old new writes writes'
    c.deref.result.now error is e.prefix e.failed)
