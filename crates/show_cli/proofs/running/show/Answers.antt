use Rattle.std.proofs.Common.{◌≡◌, List, ℕ, inl, ap, refl, subst, map, Option}
use Rattle.std.specs.Prelude.{Err, string_bytes}
use Rattle.file_replies.specs.declared.statuses.Status.TheVariants.{Refused}
use Rattle.file_replies.proofs.Readings.{failed_read, read_bytes, too_long_read}
use Rattle.show_words.specs.Requests.{task_of}
use Rattle.show_words.specs.Words.{Asks}
use Rattle.show_cli.specs.Runs.{IsTooLong, too_long, too_long_line}
use Rattle.show_cli.specs.Stops.{MeansFor}
use Rattle.show_cli.proofs.Askings.{asked_all, asked_first, asked_or_not}
use Rattle.show_cli.proofs.Endings.{file_means, line_means}
use Rattle.show_cli.proofs.ViewsWithin.{view_within}
use Rattle.show_cli.proofs.running.show.Goals as goal

pub returns-in-Ok-clause-means : goal.returns-in-Ok-clause-means
returns-in-Ok-clause-means g c =
    let words = map string_bytes c.args.words.now in
    let task = task_of c.args.command.now in
    let held : List ℕ → Option (List ℕ) = λ name. g.F.Files.held c.args.files.now name in
    let asks : Asks words task = c.requires in
    let same : ◌≡◌ {A = List ℕ → Option (List ℕ)}
    (λ name. g.F.Files.held c.read_text.new.files name) held =
    λ i name. c.in-Ok.ensures.stays name i in
    let read = read_bytes held task.file task.file c.in-Ok.bytes.items c.deref.result.now refl
    c.deref.ensures.value c.in-Ok.ensures.told c.in-Ok.ensures.within in
    let means = subst (λ (h : List ℕ → Option (List ℕ)). MeansFor h task c.deref.result.now
    (g.F.Files.faults c.read_text.new.files) (g.F.Files.faults c.show_bytes.new.files)
    (g.S.Sink.written c.args.out.now) (g.S.Sink.written c.show_bytes.new.out)
    (g.S.Sink.faults c.args.out.now) (g.S.Sink.faults c.show_bytes.new.out)
    c.show_bytes.result) same c.show_bytes.ensures.means in
    file_means words held (g.F.Files.faults c.args.files.now)
    (g.F.Files.faults c.show_bytes.new.files) _ _ _ _ task c.deref.result.now asks read
    (g.F.Files.faults c.read_text.new.files) c.in-Ok.ensures.counts c.show_bytes.result means

pub returns-in-Ok-clause-asked : goal.returns-in-Ok-clause-asked
returns-in-Ok-clause-asked g c =
    let words = map string_bytes c.args.words.now in
    let task = task_of c.args.command.now in
    let held : List ℕ → Option (List ℕ) = λ name. g.F.Files.held c.args.files.now name in
    let read = read_bytes held task.file task.file c.in-Ok.bytes.items c.deref.result.now refl
    c.deref.ensures.value c.in-Ok.ensures.told c.in-Ok.ensures.within in
    asked_all words held task c.requires _ _ _ c.deref.result.now read c.in-Ok.ensures.asks
    c.show_bytes.ensures.asked

pub returns-in-Err-TooLong-clause-means : goal.returns-in-Err-TooLong-clause-means
returns-in-Err-TooLong-clause-means g c =
    let words = map string_bytes c.args.words.now in
    let task = task_of c.args.command.now in
    let held = g.F.Files.held c.args.files.now in
    let e = c.write_all.ensures in
    let long = c.in-Err-TooLong.ensures.too_long (ap (λ e. Err e) c.in-Err-TooLong.field-0-is) in
    let is : IsTooLong words held = (task, c.requires, long) in
    line_means words held _ _ _ _ _ _ Refused c.ended.result too_long_line (too_long is)
    (λ a. inl (is, a)) c.write_all.result e.appended e.prefix e.failed c.ended.ensures

pub returns-in-Err-TooLong-clause-asked : goal.returns-in-Err-TooLong-clause-asked
returns-in-Err-TooLong-clause-asked g c =
    let words = map string_bytes c.args.words.now in
    asked_first words (g.F.Files.held c.args.files.now) (task_of c.args.command.now) c.requires
    (g.F.Files.asked c.args.files.now) (g.F.Files.asked c.read_text.new.files)
    (c.in-Err-TooLong.ensures.asks_err (too_long_read c.in-Err-TooLong.field-0
    c.in-Err-TooLong.field-0-is))

pub returns-in-Err-Failed-clause-asked : goal.returns-in-Err-Failed-clause-asked
returns-in-Err-Failed-clause-asked g c =
    let words = map string_bytes c.args.words.now in
    asked_first words (g.F.Files.held c.args.files.now) (task_of c.args.command.now) c.requires
    (g.F.Files.asked c.args.files.now) (g.F.Files.asked c.read_text.new.files)
    (c.in-Err-Failed.ensures.asks_err (failed_read c.in-Err-Failed.field-0
    c.in-Err-Failed.field-0-is))

pub returns-in-Err-OutOfMemory-clause-asked : goal.returns-in-Err-OutOfMemory-clause-asked
returns-in-Err-OutOfMemory-clause-asked g c =
    let words = map string_bytes c.args.words.now in
    asked_or_not words (g.F.Files.held c.args.files.now) (task_of c.args.command.now) c.requires
    (g.F.Files.asked c.args.files.now) (g.F.Files.asked c.read_text.new.files)
    (c.in-Err-OutOfMemory.ensures.asks_memory (ap (λ e. Err e) c.in-Err-OutOfMemory.field-0-is))

pub show_bytes-requires-clause-within : goal.show_bytes-requires-clause-within
show_bytes-requires-clause-within g c =
    view_within (map string_bytes c.args.words.now) (task_of c.args.command.now) c.requires
