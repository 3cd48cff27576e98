use Rattle.std.proofs.Common.{List, ℕ, inl, ap, refl, map, Option}
use Rattle.std.specs.Prelude.{Err, string_bytes}
use Rattle.file_replies.specs.declared.statuses.Status.TheVariants.{Refused}
use Rattle.file_replies.proofs.Readings.{failed_read, read_bytes, too_long_read}
use Rattle.explore_words.specs.Requests.{task_of}
use Rattle.explore_cli.specs.Runs.{IsTooLong, too_long, too_long_line}
use Rattle.explore_cli.proofs.Askings.{asked_file, asked_or_not}
use Rattle.explore_cli.proofs.Endings.{file_means, line_means}
use Rattle.explore_cli.proofs.running.explore_file.Goals as goal

pub returns-in-Ok-clause-means : goal.returns-in-Ok-clause-means
returns-in-Ok-clause-means g c =
    let words = map string_bytes c.args.words.now in
    let task = task_of c.args.command.now in
    let held : List ℕ → Option (List ℕ) = λ name. g.F.Files.held c.args.files.now name in
    let read = read_bytes held task.file task.file c.in-Ok.bytes.items c.deref.result.now refl
    c.deref.ensures.value c.in-Ok.ensures.told c.in-Ok.ensures.within in
    file_means words held (g.F.Files.faults c.args.files.now)
    (g.F.Files.faults c.read_text.new.files) _ _ _ _ task c.deref.result.now c.requires read
    c.explore_bytes.result c.explore_bytes.ensures.means

pub returns-in-Ok-clause-asked : goal.returns-in-Ok-clause-asked
returns-in-Ok-clause-asked g c =
    asked_file (map string_bytes c.args.words.now) (task_of c.args.command.now) c.requires
    (g.F.Files.asked c.args.files.now) (g.F.Files.asked c.read_text.new.files)
    c.in-Ok.ensures.asks

pub returns-in-Err-TooLong-clause-means : goal.returns-in-Err-TooLong-clause-means
returns-in-Err-TooLong-clause-means g c =
    let words = map string_bytes c.args.words.now in
    let task = task_of c.args.command.now in
    let held = g.F.Files.held c.args.files.now in
    let e = c.write_all.ensures in
    let long = c.in-Err-TooLong.ensures.too_long (ap (λ e. Err e) c.in-Err-TooLong.field-0-is) in
    let is : IsTooLong words held = (task, c.requires, long) in
    line_means words held _ _ _ _ _ _ Refused c.ended.result too_long_line (too_long is)
    (λ a. inl (is, a)) c.write_all.result e.appended e.prefix e.failed c.ended.ensures

pub returns-in-Err-TooLong-clause-asked : goal.returns-in-Err-TooLong-clause-asked
returns-in-Err-TooLong-clause-asked g c =
    asked_file (map string_bytes c.args.words.now) (task_of c.args.command.now) c.requires
    (g.F.Files.asked c.args.files.now) (g.F.Files.asked c.read_text.new.files)
    (c.in-Err-TooLong.ensures.asks_err (too_long_read c.in-Err-TooLong.field-0
    c.in-Err-TooLong.field-0-is))

pub returns-in-Err-Failed-clause-asked : goal.returns-in-Err-Failed-clause-asked
returns-in-Err-Failed-clause-asked g c =
    asked_file (map string_bytes c.args.words.now) (task_of c.args.command.now) c.requires
    (g.F.Files.asked c.args.files.now) (g.F.Files.asked c.read_text.new.files)
    (c.in-Err-Failed.ensures.asks_err (failed_read c.in-Err-Failed.field-0
    c.in-Err-Failed.field-0-is))

pub returns-in-Err-OutOfMemory-clause-asked : goal.returns-in-Err-OutOfMemory-clause-asked
returns-in-Err-OutOfMemory-clause-asked g c =
    asked_or_not (map string_bytes c.args.words.now) (task_of c.args.command.now) c.requires
    (g.F.Files.asked c.args.files.now) (g.F.Files.asked c.read_text.new.files)
    (c.in-Err-OutOfMemory.ensures.asks_memory (ap (λ e. Err e) c.in-Err-OutOfMemory.field-0-is))
