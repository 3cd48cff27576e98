use Rattle.std.proofs.Common.{◌≡◌, ◌∙◌, ap, inr, map, rules, subst}
use Rattle.std.specs.Prelude.{string_bytes}
use Rattle.clap.specs.Words.{App, IsAmong, app_of, fault_of, found_of, rows_of}
use Rattle.clap.specs.declared.error.kind.ErrorKind.TheVariants.{DisplayHelp}
use Rattle.command_line.specs.Helps.{IsReading}
use Rattle.command_line.specs.declared.matching.Reading.{Reading}
use Rattle.command_line.specs.declared.matching.Reading.TheVariants.{Help, Matches}
use Rattle.explore_words.specs.Words.{app_for, app_named}
use Rattle.explore_words.proofs.Askings.{asked}
use Rattle.explore_words.proofs.requests.request_of.Goals as goal

pub returns-in-Matches : goal.returns-in-Matches
returns-in-Matches c =
    let words = map string_bytes c.args.words.now in
    let form = c.in-Some-form_named.form in
    let made = app_of c.in_ok-app.app in
    let is : made ≡ app_for form = c.in_ok-app.ensures ∙ ap app_named c.in-Some-form_named.ensures in
    let read : IsReading made words (Matches c.in-Matches.matches) =
    subst (λ (r : Reading). IsReading made words r) c.in-Matches.is c.in_ok-matches.ensures in
    asked words form made (rows_of (found_of c.in-Matches.matches)) c.command_of.result is
    (search rules) read c.command_of.ensures.form c.command_of.ensures.says

pub returns-in-Help : goal.returns-in-Help
returns-in-Help c =
    let words = map string_bytes c.args.words.now in
    let form = c.in-Some-form_named.form in
    let made = app_of c.in_ok-app.app in
    let asks : IsReading made words Help =
    subst (λ (r : Reading). IsReading made words r) c.in-Help.is c.in_ok-matches.ensures in
    let is : made ≡ app_for form = c.in_ok-app.ensures ∙ ap app_named c.in-Some-form_named.ensures in
    inr (form, search rules, subst (λ (a : App). IsAmong DisplayHelp (fault_of a words)) is asks)
