use Rattle.std.proofs.Common.{ap, sym, subst}
use Rattle.std.specs.Prelude.{Err}
use Rattle.file_replies.specs.declared.statuses.Status.TheVariants.{Refused}
use Rattle.file_replies.specs.Reads.{most_report_bytes, AreBytesOf}
use Rattle.file_replies.specs.Replies.{IsFileReply, IsFileReplyText, IsReply, IsReplyText}
use Rattle.file_replies.specs.Replies.{replied, too_long_report, too_long_report_line}
use Rattle.file_replies.proofs.Readings.{line_stopped, reads_bytes}
use Rattle.file_replies.proofs.replying.reply_to_file.Goals as goal

pub returns-in_err-write_all-in-Err-TooLong-clause-finishes :
    goal.returns-in_err-write_all-in-Err-TooLong-clause-finishes
returns-in_err-write_all-in-Err-TooLong-clause-finishes g c =
    let spec = c.args.admitted.now.spec in
    let held = g.F.Files.held c.args.files.now c.args.report.now in
    let long = c.in-Err-TooLong.ensures.too_long (ap (λ e. Err e) c.in-Err-TooLong.field-0-is) in
    let e = c.in_err-write_all-in-Err-TooLong.ensures in
    line_stopped (g.S.Sink.written c.args.out.now) (g.S.Sink.written c.write_all.new.out)
    (g.S.Sink.faults c.args.out.now) (g.S.Sink.faults c.write_all.new.out)
    (g.F.Files.faults c.args.files.now) (g.F.Files.faults c.read.new.self)
    (IsFileReply (g.Y.YesText.is_text c.args.yes.now) spec held)
    (IsFileReplyText (g.Y.YesText.is_text c.args.yes.now) spec held)
    too_long_report_line (Refused, too_long_report long) c.in_err-write_all-in-Err-TooLong.field-0.0
    c.from_residual.result c.from_residual.ensures.1 e.prefix e.failed

pub returns-in-Ok-clause-finishes : goal.returns-in-Ok-clause-finishes
returns-in-Ok-clause-finishes g c =
    let spec = c.args.admitted.now.spec in
    let held = g.F.Files.held c.args.files.now c.args.report.now in
    let bytes = c.deref.result.now in
    let read : AreBytesOf held most_report_bytes c.in-Ok.bytes.items =
    record { told = c.in-Ok.ensures.told; within = c.in-Ok.ensures.within } in
    let told = subst (λ b. AreBytesOf held most_report_bytes b) (sym c.deref.ensures.value) read in
    reads_bytes (g.S.Sink.written c.args.out.now) (g.S.Sink.written c.reply_to_bytes.new.out)
    (g.S.Sink.faults c.args.out.now) (g.S.Sink.faults c.reply_to_bytes.new.out)
    (g.F.Files.faults c.args.files.now) (g.F.Files.faults c.read.new.self)
    (IsFileReply (g.Y.YesText.is_text c.args.yes.now) spec held)
    (IsFileReplyText (g.Y.YesText.is_text c.args.yes.now) spec held)
    (IsReply (g.Y.YesText.is_text c.args.yes.now) spec bytes)
    (IsReplyText (g.Y.YesText.is_text c.args.yes.now) spec bytes)
    (λ text s is. replied bytes told is) (λ text is. (is.0, replied bytes told is.1))
    c.reply_to_bytes.result c.reply_to_bytes.ensures.finishes

pub returns-in_ok-write_all-in-Err-TooLong-clause-finishes : goal.returns-in_ok-write_all-in-Err-TooLong-clause-finishes
returns-in_ok-write_all-in-Err-TooLong-clause-finishes g c =
    let long = c.in-Err-TooLong.ensures.too_long (ap (λ e. Err e) c.in-Err-TooLong.field-0-is) in
    (too_long_report_line, too_long_report long, c.in_ok-write_all-in-Err-TooLong.ensures.appended)
