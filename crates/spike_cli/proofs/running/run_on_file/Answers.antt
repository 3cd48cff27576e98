use Rattle.std.proofs.Common.{◌≡◌, List, ℕ, inl, ap, sym, subst, map, Option}
use Rattle.std.specs.Prelude.{Err, string_bytes}
use Rattle.io_core.specs.Asked.{AddsName}
use Rattle.command_line.specs.Commands.{file_of, task_of}
use Rattle.command_line.specs.Tasks.{Asks}
use Rattle.file_replies.specs.declared.statuses.Status.TheVariants.{Refused}
use Rattle.file_replies.specs.Reads.{PassesItsLimit}
use Rattle.spike_cli.specs.Runs.{IsTooLong, too_long, too_long_line}
use Rattle.spike_cli.specs.Stops.{MeansFor}
use Rattle.spike_cli.proofs.Endings.{line_means, file_means}
use Rattle.spike_cli.proofs.TasksWithin.{task_within}
use Rattle.spike_cli.proofs.Readings.{asked_first, asked_further, asked_or_not}
use Rattle.file_replies.proofs.Readings.{failed_read, read_bytes, too_long_read}
use Rattle.spike_cli.proofs.running.run_on_file.Goals as goal

pub returns-in-Ok-clause-means : goal.returns-in-Ok-clause-means
returns-in-Ok-clause-means g c =
    let words = map string_bytes c.args.words.now in
    let file = file_of c.args.command.now in
    let task = task_of c.args.command.now in
    let held : List ℕ → Option (List ℕ) = λ name. g.F.Files.held c.args.files.now name in
    let asks : Asks words file task = c.requires in
    let same : ◌≡◌ {A = List ℕ → Option (List ℕ)}
    (λ name. g.F.Files.held c.read_text.new.files name) held =
    λ i name. c.in-Ok.ensures.stays name i in
    let read = read_bytes held c.file.result.now file c.in-Ok.bytes.items c.deref.result.now c.file.ensures
    c.deref.ensures.value c.in-Ok.ensures.told c.in-Ok.ensures.within in
    let means = subst (λ (h : List ℕ → Option (List ℕ)). MeansFor h task c.deref.result.now
    (g.F.Files.faults c.read_text.new.files) (g.F.Files.faults c.carry_out.new.files)
    (g.S.Sink.written c.args.out.now) (g.S.Sink.written c.carry_out.new.out)
    (g.S.Sink.faults c.args.out.now) (g.S.Sink.faults c.carry_out.new.out)
    c.carry_out.result) same c.carry_out.ensures.means in
    file_means words held (g.F.Files.faults c.args.files.now)
    (g.F.Files.faults c.carry_out.new.files) _ _ _ _ task file c.deref.result.now asks read
    (g.F.Files.faults c.read_text.new.files) c.in-Ok.ensures.counts c.carry_out.result means

pub returns-in-Ok-clause-asked : goal.returns-in-Ok-clause-asked
returns-in-Ok-clause-asked g c =
    let words = map string_bytes c.args.words.now in
    let file = file_of c.args.command.now in
    let held : List ℕ → Option (List ℕ) = λ name. g.F.Files.held c.args.files.now name in
    let read = read_bytes held c.file.result.now file c.in-Ok.bytes.items c.deref.result.now c.file.ensures
    c.deref.ensures.value c.in-Ok.ensures.told c.in-Ok.ensures.within in
    asked_further words held file (task_of c.args.command.now) c.requires _ _ _ c.deref.result.now read
    (subst (λ name. AddsName (g.F.Files.asked c.args.files.now)
    (g.F.Files.asked c.read_text.new.files) name) c.file.ensures c.in-Ok.ensures.asks)
    c.carry_out.ensures.asked

pub returns-in-Err-TooLong-clause-means : goal.returns-in-Err-TooLong-clause-means
returns-in-Err-TooLong-clause-means g c =
    let words = map string_bytes c.args.words.now in
    let asks : Asks words (file_of c.args.command.now) (task_of c.args.command.now) = c.requires in
    let e = c.write_all.ensures in
    let long = c.in-Err-TooLong.ensures.too_long (ap (λ e. Err e) c.in-Err-TooLong.field-0-is) in
    let is : IsTooLong words (g.F.Files.held c.args.files.now) = (
      file_of c.args.command.now,
      task_of c.args.command.now,
      asks,
      subst (λ (f : List ℕ). PassesItsLimit (g.F.Files.held c.args.files.now f)) c.file.ensures long,
    ) in
    line_means words (g.F.Files.held c.args.files.now) _ _ _ _ _ _ Refused
    c.ended.result too_long_line (too_long is)
    (λ a. inl (is, a)) c.write_all.result e.appended e.prefix e.failed c.ended.ensures

pub returns-in-Err-TooLong-clause-asked : goal.returns-in-Err-TooLong-clause-asked
returns-in-Err-TooLong-clause-asked g c =
    let words = map string_bytes c.args.words.now in
    let task = task_of c.args.command.now in
    let named : Asks words c.file.result.now task = subst (λ file. Asks words file task)
    (sym c.file.ensures) c.requires in
    asked_first words (g.F.Files.held c.args.files.now) c.file.result.now task named
    (g.F.Files.asked c.args.files.now) (g.F.Files.asked c.read_text.new.files)
    (c.in-Err-TooLong.ensures.asks_err (too_long_read c.in-Err-TooLong.field-0
    c.in-Err-TooLong.field-0-is))

pub returns-in-Err-Failed-clause-asked : goal.returns-in-Err-Failed-clause-asked
returns-in-Err-Failed-clause-asked g c =
    let words = map string_bytes c.args.words.now in
    let task = task_of c.args.command.now in
    let named : Asks words c.file.result.now task = subst (λ file. Asks words file task)
    (sym c.file.ensures) c.requires in
    asked_first words (g.F.Files.held c.args.files.now) c.file.result.now task named
    (g.F.Files.asked c.args.files.now) (g.F.Files.asked c.read_text.new.files)
    (c.in-Err-Failed.ensures.asks_err (failed_read c.in-Err-Failed.field-0
    c.in-Err-Failed.field-0-is))

pub returns-in-Err-OutOfMemory-clause-asked : goal.returns-in-Err-OutOfMemory-clause-asked
returns-in-Err-OutOfMemory-clause-asked g c =
    let words = map string_bytes c.args.words.now in
    let task = task_of c.args.command.now in
    let named : Asks words c.file.result.now task = subst (λ file. Asks words file task)
    (sym c.file.ensures) c.requires in
    asked_or_not words (g.F.Files.held c.args.files.now) c.file.result.now task named
    (g.F.Files.asked c.args.files.now) (g.F.Files.asked c.read_text.new.files)
    (c.in-Err-OutOfMemory.ensures.asks_memory (ap (λ e. Err e) c.in-Err-OutOfMemory.field-0-is))

pub carry_out-requires-clause-within : goal.carry_out-requires-clause-within
carry_out-requires-clause-within g c =
    let words = map string_bytes c.args.words.now in
    let task = task_of c.args.command.now in
    let asks : Asks words (file_of c.args.command.now) task = c.requires in
    task_within words (file_of c.args.command.now) task asks
