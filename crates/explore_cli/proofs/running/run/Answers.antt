use Rattle.std.proofs.Common.{◌≡◌, List, ℕ, inr, refl, sym, subst, map, Option, Some}
use Rattle.std.specs.Prelude.{string_bytes}
use Rattle.io_core.specs.Piece.{Appended}
use Rattle.file_replies.specs.declared.statuses.Status.TheVariants.{Done, Usage}
use Rattle.explore_words.specs.Requests.{IsAsked}
use Rattle.explore_words.specs.Usage.{help_text, usage_line}
use Rattle.explore_words.specs.Words.{AskForHelp, AskNothing}
use Rattle.explore_words.specs.declared.requests.Request.{Request}
use Rattle.explore_cli.specs.Runs.{MayWrite, help, usage}
use Rattle.explore_cli.proofs.Askings.{asks_no_file}
use Rattle.explore_cli.proofs.Endings.{line_means}
use Rattle.explore_cli.proofs.running.run.Goals as goal

pub returns-in-Ok-Some-Help-clause-means : goal.returns-in-Ok-Some-Help-clause-means
returns-in-Ok-Some-Help-clause-means g c =
    let words = map string_bytes c.args.words.now in
    let held = g.F.Files.held c.args.files.now in
    let e = c.write_all-wrote.ensures in
    let some : IsAsked words (Some c.in-Ok-Some-Help.field-0-0) =
    subst (λ (o : Option Request). IsAsked words o) c.in-Ok-Some-Help.field-0-is
    c.in-Ok-Some-Help.ensures in
    let asks : AskForHelp words =
    subst (λ (r : Request). IsAsked words (Some r)) c.in-Ok-Some-Help.field-0-0-is some in
    let old = g.S.Sink.written c.args.out.now in
    let new = g.S.Sink.written c.write_all-wrote.new.out in
    let text = c.help_text.result.now in
    let is : text ≡ help_text = c.help_text.ensures in
    line_means words held _ _ old new _ _ Done c.ended.result text
    (subst (λ (l : List ℕ). MayWrite words held l) (sym is) (help asks))
    (λ a. inr (asks, subst (λ (l : List ℕ). Appended old new l) is a))
    c.write_all-wrote.result e.appended e.prefix e.failed c.ended.ensures

pub returns-in-Ok-Some-Help-clause-asked : goal.returns-in-Ok-Some-Help-clause-asked
returns-in-Ok-Some-Help-clause-asked g c =
    asks_no_file (map string_bytes c.args.words.now) (g.F.Files.asked c.args.files.now)
    (g.F.Files.asked c.args.files.now) refl

pub returns-in-Ok-None-clause-means : goal.returns-in-Ok-None-clause-means
returns-in-Ok-None-clause-means g c =
    let words = map string_bytes c.args.words.now in
    let held = g.F.Files.held c.args.files.now in
    let e = c.write_all-wrote-in-Ok-None.ensures in
    let nothing : AskNothing words =
    subst (λ (o : Option Request). IsAsked words o) c.in-Ok-None.field-0-is c.in-Ok-None.ensures in
    let old = g.S.Sink.written c.args.out.now in
    let new = g.S.Sink.written c.write_all-wrote-in-Ok-None.new.out in
    let line = c.usage_line.result.now in
    let is : line ≡ usage_line = c.usage_line.ensures in
    line_means words held _ _ old new _ _ Usage c.ended-in-Ok-None.result line
    (subst (λ (l : List ℕ). MayWrite words held l) (sym is) (usage nothing))
    (λ a. (nothing, subst (λ (l : List ℕ). Appended old new l) is a))
    c.write_all-wrote-in-Ok-None.result e.appended e.prefix e.failed c.ended-in-Ok-None.ensures

pub returns-in-Ok-None-clause-asked : goal.returns-in-Ok-None-clause-asked
returns-in-Ok-None-clause-asked g c =
    asks_no_file (map string_bytes c.args.words.now) (g.F.Files.asked c.args.files.now)
    (g.F.Files.asked c.args.files.now) refl

pub returns-in-Err-clause-asked : goal.returns-in-Err-clause-asked
returns-in-Err-clause-asked g c =
    asks_no_file (map string_bytes c.args.words.now) (g.F.Files.asked c.args.files.now)
    (g.F.Files.asked c.args.files.now) refl
