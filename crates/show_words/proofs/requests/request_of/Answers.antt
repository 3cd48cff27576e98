use Rattle.std.proofs.Common.{◌≡◌, ◌∙◌, ap, inr, map, rules, subst, sym}
use Rattle.std.specs.Prelude.{string_bytes}
use Rattle.clap.specs.Words.{App, IsAmong, app_of, fault_of, found_of, rows_of}
use Rattle.clap.specs.declared.error.kind.ErrorKind.TheVariants.{DisplayHelp}
use Rattle.command_line.specs.FlatApps.{IsFlat}
use Rattle.command_line.specs.Helps.{IsReading}
use Rattle.command_line.specs.declared.matching.Reading.{Reading}
use Rattle.command_line.specs.declared.matching.Reading.TheVariants.{Fault, Help, Matches}
use Rattle.show_words.specs.Words.{app_for, app_named}
use Rattle.show_words.proofs.Askings.{asked, is_flat, nothing_asked}
use Rattle.show_words.proofs.requests.request_of.Goals as goal

pub reading_of-requires : goal.reading_of-requires
reading_of-requires c =
    subst (λ (a : App). IsFlat a) (sym c.in_ok-app.ensures) (is_flat c.in-Some-command_named.word _)

pub returns-in-Matches : goal.returns-in-Matches
returns-in-Matches c =
    let words = map string_bytes c.args.words.now in
    let word = c.in-Some-command_named.word in
    let made = app_of c.in_ok-app.app in
    let is : made ≡ app_for word =
    c.in_ok-app.ensures ∙ ap (app_named word) c.in-Some-command_named.ensures in
    let read : IsReading made words (Matches c.in-Matches.matches) =
    subst (λ (r : Reading). IsReading made words r) c.in-Matches.is c.in_ok-matches.ensures in
    asked words word made (rows_of (found_of c.in-Matches.matches)) c.command_of.result is
    (search rules) read c.command_of.ensures.word c.command_of.ensures.says

pub returns-in-Help : goal.returns-in-Help
returns-in-Help c =
    let words = map string_bytes c.args.words.now in
    let word = c.in-Some-command_named.word in
    let made = app_of c.in_ok-app.app in
    let asks : IsReading made words Help =
    subst (λ (r : Reading). IsReading made words r) c.in-Help.is c.in_ok-matches.ensures in
    let is : made ≡ app_for word =
    c.in_ok-app.ensures ∙ ap (app_named word) c.in-Some-command_named.ensures in
    inr (word, search rules, subst (λ (a : App). IsAmong DisplayHelp (fault_of a words)) is asks)

pub returns-in-Fault : goal.returns-in-Fault
returns-in-Fault c =
    let words = map string_bytes c.args.words.now in
    let word = c.in-Some-command_named.word in
    let made = app_of c.in_ok-app.app in
    let faulty : IsReading made words Fault =
    subst (λ (r : Reading). IsReading made words r) c.in-Fault.is c.in_ok-matches.ensures in
    let is : made ≡ app_for word =
    c.in_ok-app.ensures ∙ ap (app_named word) c.in-Some-command_named.ensures in
    nothing_asked words word made is (search rules) faulty
