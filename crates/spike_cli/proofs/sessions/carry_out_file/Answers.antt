use Rattle.std.proofs.Common.{ap, sym, subst}
use Rattle.std.specs.Prelude.{Err}
use Rattle.file_replies.specs.declared.statuses.Status.TheVariants.{Refused}
use Rattle.file_replies.specs.Reads.{AreBytesOf}
use Rattle.spike_cli.specs.Sessions.{most_command_bytes, too_long_commands_line}
use Rattle.spike_cli.specs.Sessions.{IsFileSession, IsSession, IsSomeFileSession, IsSomeSession}
use Rattle.spike_cli.specs.Sessions.{for_bytes, too_long_commands}
use Rattle.file_replies.proofs.Readings.{line_stopped, reads_bytes}
use Rattle.spike_cli.proofs.sessions.carry_out_file.Goals as goal

pub returns-in_err-write_all-in-Err-TooLong-clause-finishes :
    goal.returns-in_err-write_all-in-Err-TooLong-clause-finishes
returns-in_err-write_all-in-Err-TooLong-clause-finishes g c =
    let spec = c.args.admitted.now.spec in
    let held = g.F.Files.held c.args.files.now c.args.commands.now in
    let long = c.in-Err-TooLong.ensures.too_long (ap (λ e. Err e) c.in-Err-TooLong.field-0-is) in
    let e = c.in_err-write_all-in-Err-TooLong.ensures in
    line_stopped (g.S.Sink.written c.args.out.now) (g.S.Sink.written c.write_all.new.out)
    (g.S.Sink.faults c.args.out.now) (g.S.Sink.faults c.write_all.new.out)
    (g.F.Files.faults c.args.files.now) (g.F.Files.faults c.read.new.self) (IsFileSession spec held)
    (IsSomeFileSession spec held) too_long_commands_line (Refused, too_long_commands long)
    c.in_err-write_all-in-Err-TooLong.field-0.0 c.from_residual.result c.from_residual.ensures.1
    e.prefix e.failed

pub returns-in-Ok-clause-finishes : goal.returns-in-Ok-clause-finishes
returns-in-Ok-clause-finishes g c =
    let spec = c.args.admitted.now.spec in
    let held = g.F.Files.held c.args.files.now c.args.commands.now in
    let bytes = c.deref.result.now in
    let read : AreBytesOf held most_command_bytes c.in-Ok.bytes.items =
    record { told = c.in-Ok.ensures.told; within = c.in-Ok.ensures.within } in
    let told = subst (λ b. AreBytesOf held most_command_bytes b) (sym c.deref.ensures.value) read in
    reads_bytes (g.S.Sink.written c.args.out.now) (g.S.Sink.written c.carry_out_bytes.new.out)
    (g.S.Sink.faults c.args.out.now) (g.S.Sink.faults c.carry_out_bytes.new.out)
    (g.F.Files.faults c.args.files.now) (g.F.Files.faults c.read.new.self) (IsFileSession spec held)
    (IsSomeFileSession spec held) (IsSession spec bytes) (IsSomeSession spec bytes)
    (λ text s is. for_bytes bytes told is) (λ text is. (is.0, for_bytes bytes told is.1))
    c.carry_out_bytes.result c.carry_out_bytes.ensures.finishes

pub returns-in_ok-write_all-in-Err-TooLong-clause-finishes : goal.returns-in_ok-write_all-in-Err-TooLong-clause-finishes
returns-in_ok-write_all-in-Err-TooLong-clause-finishes g c =
    let long = c.in-Err-TooLong.ensures.too_long (ap (λ e. Err e) c.in-Err-TooLong.field-0-is) in
    (too_long_commands_line, too_long_commands long, c.in_ok-write_all-in-Err-TooLong.ensures.appended)
