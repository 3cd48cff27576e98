-- The text of each task, on the specification that was accepted.
use Rattle.std.proofs.Common.{ℕ, List, sym, subst}
use Rattle.command_line.specs.Commands.{task_of}
use Rattle.command_line.specs.declared.bounds.ProofBounds.{ProofBounds}
use Rattle.command_line.specs.declared.commands.Command.{Command}
use Rattle.spec_core.specs.declared.records.Spec.{Spec}
use Rattle.clause_core.specs.Admitted.{IsAdmitted}
use Rattle.spec_order.specs.Orders.{above_of}
use Rattle.spike_cli.specs.Evaluations.{IsEvaluation, IsEvaluationText}
use Rattle.spike_cli.specs.Reports.{BeginsReport, IsReport, search_alone}
use Rattle.spike_cli.specs.Runs.{IsEnd, MayWriteOn}
use Rattle.file_replies.specs.Stops.{Finishes}
use Rattle.spike_cli.proofs.Readings.{of_command}
use Rattle.file_replies.proofs.Readings.{reads_nothing}
use Rattle.spike_cli.proofs.running.finish.Goals as goal

pub returns-in-Check-clause-finishes : goal.returns-in-Check-clause-finishes
returns-in-Check-clause-finishes g c =
    let held = g.F.Files.held c.args.files.now in
    let raw = c.args.accepted.now.raw in
    let spec = c.args.accepted.now.admitted.spec in
    reads_nothing (g.S.Sink.written c.args.out.now) (g.S.Sink.written c.check.new.out)
    (g.S.Sink.faults c.args.out.now) (g.S.Sink.faults c.check.new.out) (g.F.Files.faults c.args.files.now)
    (g.F.Files.faults c.args.files.now) (IsEnd held (task_of c.args.command.now) raw spec)
    (MayWriteOn held (task_of c.args.command.now) raw spec) c.check.result
    (subst (λ (k : Command). Finishes (g.S.Sink.written c.args.out.now) (g.S.Sink.written c.check.new.out)
    (g.S.Sink.faults c.args.out.now) (g.S.Sink.faults c.check.new.out) (IsEnd held (task_of k) raw spec)
    (MayWriteOn held (task_of k) raw spec) c.check.result) (sym c.in-Check.is) c.check.ensures.finishes)

pub returns-in-Refute-clause-finishes : goal.returns-in-Refute-clause-finishes
returns-in-Refute-clause-finishes g c =
    let held = g.F.Files.held c.args.files.now in
    let raw = c.args.accepted.now.raw in
    let spec = c.args.accepted.now.admitted.spec in
    let made = subst (λ (b : ProofBounds). Finishes (g.S.Sink.written c.args.out.now)
    (g.S.Sink.written c.write_report.new.out) (g.S.Sink.faults c.args.out.now)
    (g.S.Sink.faults c.write_report.new.out) (IsReport b spec) (BeginsReport b spec) c.write_report.result)
    c.search_alone.ensures c.write_report.ensures.finishes in
    reads_nothing (g.S.Sink.written c.args.out.now) (g.S.Sink.written c.write_report.new.out)
    (g.S.Sink.faults c.args.out.now) (g.S.Sink.faults c.write_report.new.out)
    (g.F.Files.faults c.args.files.now) (g.F.Files.faults c.args.files.now)
    (IsEnd held (task_of c.args.command.now) raw spec)
    (MayWriteOn held (task_of c.args.command.now) raw spec) c.write_report.result
    (subst (λ (k : Command). Finishes (g.S.Sink.written c.args.out.now)
    (g.S.Sink.written c.write_report.new.out) (g.S.Sink.faults c.args.out.now)
    (g.S.Sink.faults c.write_report.new.out) (IsEnd held (task_of k) raw spec)
    (MayWriteOn held (task_of k) raw spec) c.write_report.result) (sym c.in-Refute.is) made)

pub returns-in-Prove-clause-finishes : goal.returns-in-Prove-clause-finishes
returns-in-Prove-clause-finishes g c =
    let held = g.F.Files.held c.args.files.now in
    let raw = c.args.accepted.now.raw in
    let spec = c.args.accepted.now.admitted.spec in
    reads_nothing (g.S.Sink.written c.args.out.now) (g.S.Sink.written c.write_report-in-Prove.new.out)
    (g.S.Sink.faults c.args.out.now) (g.S.Sink.faults c.write_report-in-Prove.new.out)
    (g.F.Files.faults c.args.files.now) (g.F.Files.faults c.args.files.now)
    (IsEnd held (task_of c.args.command.now) raw spec)
    (MayWriteOn held (task_of c.args.command.now) raw spec) c.write_report-in-Prove.result
    (subst (λ (k : Command). Finishes (g.S.Sink.written c.args.out.now)
    (g.S.Sink.written c.write_report-in-Prove.new.out) (g.S.Sink.faults c.args.out.now)
    (g.S.Sink.faults c.write_report-in-Prove.new.out) (IsEnd held (task_of k) raw spec)
    (MayWriteOn held (task_of k) raw spec) c.write_report-in-Prove.result) (sym c.in-Prove.is)
    c.write_report-in-Prove.ensures.finishes)

pub returns-in-Eval-clause-finishes : goal.returns-in-Eval-clause-finishes
returns-in-Eval-clause-finishes g c =
    let held = g.F.Files.held c.args.files.now in
    let raw = c.args.accepted.now.raw in
    let spec = c.args.accepted.now.admitted.spec in
    let steps = c.in-Eval.steps in
    let made = subst (λ (s : Spec). Finishes (g.S.Sink.written c.args.out.now)
    (g.S.Sink.written c.evaluate.new.out) (g.S.Sink.faults c.args.out.now)
    (g.S.Sink.faults c.evaluate.new.out) (IsEvaluation s c.as_bytes.result.now steps)
    (IsEvaluationText s c.as_bytes.result.now steps) c.evaluate.result) c.spec.ensures.is
    c.evaluate.ensures.finishes in
    let here = subst (λ (b : List ℕ). Finishes (g.S.Sink.written c.args.out.now)
    (g.S.Sink.written c.evaluate.new.out) (g.S.Sink.faults c.args.out.now)
    (g.S.Sink.faults c.evaluate.new.out) (IsEvaluation spec b steps) (IsEvaluationText spec b steps)
    c.evaluate.result) c.as_bytes.ensures.value made in
    reads_nothing (g.S.Sink.written c.args.out.now) (g.S.Sink.written c.evaluate.new.out)
    (g.S.Sink.faults c.args.out.now) (g.S.Sink.faults c.evaluate.new.out)
    (g.F.Files.faults c.args.files.now) (g.F.Files.faults c.args.files.now)
    (IsEnd held (task_of c.args.command.now) raw spec)
    (MayWriteOn held (task_of c.args.command.now) raw spec) c.evaluate.result
    (subst (λ (k : Command). Finishes (g.S.Sink.written c.args.out.now)
    (g.S.Sink.written c.evaluate.new.out) (g.S.Sink.faults c.args.out.now)
    (g.S.Sink.faults c.evaluate.new.out) (IsEnd held (task_of k) raw spec)
    (MayWriteOn held (task_of k) raw spec) c.evaluate.result) (sym c.in-Eval.is) here)

pub returns-in-Replay-clause-finishes : goal.returns-in-Replay-clause-finishes
returns-in-Replay-clause-finishes g c =
    let raw = c.args.accepted.now.raw in
    let spec = c.args.accepted.now.admitted.spec in
    of_command (g.F.Files.held c.args.files.now) raw spec c.args.command.now _ c.in-Replay.is
    (g.S.Sink.written c.args.out.now) (g.S.Sink.written c.reply_to_file.new.out)
    (g.S.Sink.faults c.args.out.now) (g.S.Sink.faults c.reply_to_file.new.out)
    (g.F.Files.faults c.args.files.now) (g.F.Files.faults c.reply_to_file.new.files)
    c.reply_to_file.result c.reply_to_file.ensures.finishes

pub returns-in-Trim-clause-finishes : goal.returns-in-Trim-clause-finishes
returns-in-Trim-clause-finishes g c =
    let raw = c.args.accepted.now.raw in
    let spec = c.args.accepted.now.admitted.spec in
    of_command (g.F.Files.held c.args.files.now) raw spec c.args.command.now _ c.in-Trim.is
    (g.S.Sink.written c.args.out.now) (g.S.Sink.written c.reply_to_file-in-Trim.new.out)
    (g.S.Sink.faults c.args.out.now) (g.S.Sink.faults c.reply_to_file-in-Trim.new.out)
    (g.F.Files.faults c.args.files.now) (g.F.Files.faults c.reply_to_file-in-Trim.new.files)
    c.reply_to_file-in-Trim.result c.reply_to_file-in-Trim.ensures.finishes

pub returns-in-Session-clause-finishes : goal.returns-in-Session-clause-finishes
returns-in-Session-clause-finishes g c =
    let raw = c.args.accepted.now.raw in
    let spec = c.args.accepted.now.admitted.spec in
    of_command (g.F.Files.held c.args.files.now) raw spec c.args.command.now _ c.in-Session.is
    (g.S.Sink.written c.args.out.now) (g.S.Sink.written c.carry_out_file.new.out)
    (g.S.Sink.faults c.args.out.now) (g.S.Sink.faults c.carry_out_file.new.out)
    (g.F.Files.faults c.args.files.now) (g.F.Files.faults c.carry_out_file.new.files)
    c.carry_out_file.result c.carry_out_file.ensures.finishes

pub returns-in-Upgrade-clause-finishes : goal.returns-in-Upgrade-clause-finishes
returns-in-Upgrade-clause-finishes g c =
    let held = g.F.Files.held c.args.files.now in
    let raw = c.args.accepted.now.raw in
    let spec = c.args.accepted.now.admitted.spec in
    let old = g.S.Sink.written c.args.out.now in
    let new = g.S.Sink.written c.upgrade.new.out in
    let writes = g.S.Sink.faults c.args.out.now in
    let writes' = g.S.Sink.faults c.upgrade.new.out in
    let reads = g.F.Files.faults c.args.files.now in
    let task = task_of c.args.command.now in
    let made = subst (λ (k : Command).
    Finishes old new writes writes' (IsEnd held (task_of k) raw spec)
    (MayWriteOn held (task_of k) raw spec) c.upgrade.result)
    (sym c.in-Upgrade.is) c.upgrade.ensures.finishes in
    reads_nothing old new writes writes' reads reads (IsEnd held task raw spec)
    (MayWriteOn held task raw spec) c.upgrade.result made

pub evaluate-requires-clause-admitted : goal.evaluate-requires-clause-admitted
evaluate-requires-clause-admitted g c =
    subst (λ (s : Spec). IsAdmitted (above_of s) s) (sym c.spec.ensures.is) c.requires.reported.admitted
