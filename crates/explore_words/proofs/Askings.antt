-- What the matches of a command say is what the words ask for.
use Rattle.std.proofs.Common.{◌≡◌, ◌∙◌, List, ap, subst, sym}
use Rattle.clap.specs.Words.{App, Row, Text, matches_of}
use Rattle.command_line.specs.Matches.{Takes}
use Rattle.command_line.specs.Readings.{AreMatches}
use Rattle.command_line.specs.Tasks.{IsNamed}
use Rattle.explore_words.specs.declared.requests.Command.{Command}
use Rattle.explore_words.specs.declared.requests.Form.{Form}
use Rattle.explore_words.specs.Requests.{task_of}
use Rattle.explore_words.specs.Words.{Asks, Say, app_for, command_word}

pub asked :
    (words : List Text) (form : Form) (app : App) (rows : List Row) (command : Command) →
    app ≡ app_for form → IsNamed (command_word form) words → AreMatches app words rows →
    command.form ≡ form → Say rows (task_of command) → Asks words (task_of command)
asked words form app rows command same named matches is says =
    let own : app ≡ app_for command.form = same ∙ ap app_for (sym is) in
    record {
      named = subst (λ (f : Form). IsNamed (command_word f) words) (sym is) named;
      taken = subst (λ (a : App). Takes a words) own matches.taken;
      task_is =
          subst (λ (r : List Row). Say r (task_of command))
          (matches.are ∙ ap (λ (a : App). matches_of a words) own) says;
    }
