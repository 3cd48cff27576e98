-- What the matches of a command say is what the words ask for.
use Rattle.std.proofs.Common.{◌≡◌, ◌∙◌, List, Some, ap, codes, refl, slice_get, subst, sym}
use Rattle.clap.specs.Words.{App, Row, Text, matches_of}
use Rattle.command_line.specs.FlatApps.{IsFlat}
use Rattle.command_line.specs.Helps.{AreFaulty}
use Rattle.command_line.specs.Matches.{Takes}
use Rattle.command_line.specs.Readings.{AreMatches}
use Rattle.command_line.specs.Rules.{word_rule}
use Rattle.command_line.specs.Tasks.{IsNamed}
use Rattle.command_line.proofs.Entries.{one_name}
use Rattle.show_words.specs.declared.requests.Command.{Command}
use Rattle.show_words.specs.declared.requests.CommandWord.{CommandWord}
use Rattle.show_words.specs.declared.requests.CommandWord.TheVariants.{Page, Open}
use Rattle.show_words.specs.Requests.{task_of}
use Rattle.show_words.specs.Words.{Asks, AskNothing, Say, app_for, app_named, word_of, word_text}
use Rattle.show_words.proofs.OneRequest.{no_help_first, one_word}

-- each command is one without subcommands, with names of its own
pub is_flat : (word : CommandWord) (name : Text) → IsFlat (app_named word name)
is_flat (Page form) name =
    record { simple = refl; ready = refl; free = refl; leaf = refl; negates = refl; names = refl }
is_flat Open name =
    record { simple = refl; ready = refl; free = refl; leaf = refl; negates = refl; names = refl }

-- the first argument is the file
pub file_first :
    (word : CommandWord) → slice_get (app_for word).top.rules 0 ≡ Some (word_rule (codes "FILE"))
file_first (Page form) = refl
file_first Open = refl

pub asked :
    (words : List Text) (word : CommandWord) (app : App) (rows : List Row) (command : Command) →
    app ≡ app_for word → IsNamed (word_text word) words → AreMatches app words rows →
    word_of (task_of command).view ≡ word → Say rows (task_of command) → Asks words (task_of command)
asked words word app rows command same named matches is says =
    let own : app ≡ app_for (word_of (task_of command).view) = same ∙ ap app_for (sym is) in
    record {
      named = subst (λ (w : CommandWord). IsNamed (word_text w) words) (sym is) named;
      taken = subst (λ (a : App). Takes a words) own matches.taken;
      task_is =
          subst (λ (r : List Row). Say r (task_of command))
          (matches.are ∙ ap (λ (a : App). matches_of a words) own) says;
    }

-- words in which the command finds a fault ask for nothing
pub nothing_asked :
    (words : List Text) (word : CommandWord) (app : App) → app ≡ app_for word →
    IsNamed (word_text word) words → AreFaulty app words → AskNothing words
nothing_asked words word app same named faulty =
    let own = subst (λ (a : App). AreFaulty a words) same faulty in
    record {
      no_help = no_help_first words word named;
      refused =
          λ other named_too.
          subst (λ (w : CommandWord). AreFaulty (app_for w) words)
          (one_word word other (one_name words _ _ named named_too)) own;
    }
