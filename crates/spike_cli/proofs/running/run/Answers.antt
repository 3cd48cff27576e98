use Rattle.std.proofs.Common.{◌≡◌, List, ℕ, refl, sym, subst, map, Option, Some}
use Rattle.std.specs.Prelude.{Err, string_bytes}
use Rattle.command_line.specs.Commands.{IsAsked}
use Rattle.command_line.specs.Tasks.{AsksToLoad, AskNothing}
use Rattle.command_line.specs.declared.commands.Request.{Request}
use Rattle.file_replies.specs.declared.statuses.Status.TheVariants.{Usage}
use Rattle.spike_cli.specs.Runs.{MayWrite, usage}
use Rattle.command_line.specs.Usage.{usage_line}
use Rattle.io_core.specs.Piece.{Appended}
use Rattle.spike_cli.proofs.Endings.{line_means, load_means}
use Rattle.spike_cli.proofs.Readings.{asks_no_file}
use Rattle.spike_cli.proofs.running.run.Goals as goal

pub returns-in-Ok-None-clause-means : goal.returns-in-Ok-None-clause-means
returns-in-Ok-None-clause-means g c =
    let e = c.write_all-wrote.ensures in
    let nothing : AskNothing (map string_bytes c.args.words.now) = subst
    (λ (o : Option Request). IsAsked (map string_bytes c.args.words.now) o)
    c.in-Ok-None.field-0-is c.in-Ok-None.ensures in
    let words = map string_bytes c.args.words.now in
    let held : List ℕ → Option (List ℕ) = λ name. g.F.Files.held c.args.files.now name in
    let old = g.S.Sink.written c.args.out.now in
    let new = g.S.Sink.written c.write_all-wrote.new.out in
    let line = c.usage_line.result.now in
    let is : line ≡ usage_line = c.usage_line.ensures in
    line_means words held _ _ old new _ _ Usage c.ended.result line
    (subst (λ (l : List ℕ). MayWrite words held l) (sym is) (usage nothing))
    (λ a. (nothing, subst (λ (l : List ℕ). Appended old new l) is a)) c.write_all-wrote.result
    e.appended e.prefix e.failed c.ended.ensures

pub returns-in-Err-load-clause-means : goal.returns-in-Err-load-clause-means
returns-in-Err-load-clause-means g c =
    let words = map string_bytes c.args.words.now in
    let held : List ℕ → Option (List ℕ) = λ name. g.F.Files.held c.args.files.now name in
    let request : IsAsked words (Some c.in-Ok-Some-Load.field-0-0) =
    subst (λ (o : Option Request). IsAsked words o) c.in-Ok-Some-Load.field-0-is
    c.in-Ok-Some-Load.ensures in
    let asks : AsksToLoad words c.in-Ok-Some-Load.goals =
    subst (λ (r : Request). IsAsked words (Some r)) c.in-Ok-Some-Load.field-0-0-is request in
    load_means words held _ _ _ _ _ _ c.in-Ok-Some-Load.goals asks (Err c.in-Err-load.stop)
    c.in-Err-load.ensures.finishes c.status.result c.status.ensures

pub returns-in-Ok-clause-asked : goal.returns-in-Ok-clause-asked
returns-in-Ok-clause-asked g c =
    asks_no_file (map string_bytes c.args.words.now) (g.F.Files.held c.args.files.now)
    (g.F.Files.asked c.args.files.now) (g.F.Files.asked c.args.files.now) refl

pub returns-in-Err-load-clause-asked : goal.returns-in-Err-load-clause-asked
returns-in-Err-load-clause-asked g c =
    asks_no_file (map string_bytes c.args.words.now) (g.F.Files.held c.args.files.now)
    (g.F.Files.asked c.args.files.now) (g.F.Files.asked c.args.files.now) refl

pub returns-in-Ok-None-clause-asked : goal.returns-in-Ok-None-clause-asked
returns-in-Ok-None-clause-asked g c =
    asks_no_file (map string_bytes c.args.words.now) (g.F.Files.held c.args.files.now)
    (g.F.Files.asked c.args.files.now) (g.F.Files.asked c.args.files.now) refl

pub returns-in-Err-clause-asked : goal.returns-in-Err-clause-asked
returns-in-Err-clause-asked g c =
    asks_no_file (map string_bytes c.args.words.now) (g.F.Files.held c.args.files.now)
    (g.F.Files.asked c.args.files.now) (g.F.Files.asked c.args.files.now) refl
