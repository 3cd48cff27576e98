-- Words ask for one task at most, and those that do ask for nothing else.
use Rattle.std.proofs.Common.{◌≡◌, ◌∙◌, List, [], ◌∷◌, Bool, true, false, true≢false, ap, ap₂, codes, inl, inr}
use Rattle.std.proofs.Common.{refl, sym, subst}
use Rattle.clap.specs.Words.{IsAmong, Row, Text, fault_of, matches_of}
use Rattle.clap.specs.Kinds.{Kinds}
use Rattle.clap.specs.declared.error.kind.ErrorKind.{ErrorKind}
use Rattle.clap.specs.declared.error.kind.ErrorKind.TheVariants.{DisplayHelp}
use Rattle.command_line.specs.Helps.{BeginWithHelp, IsHelpWord}
use Rattle.command_line.specs.Tasks.{IsNamed}
use Rattle.command_line.proofs.Entries.{one_name}
use Rattle.command_line.proofs.OneRequest.{one_proof_bounds, one_text}
use Rattle.command_line.proofs.OwnNames.{differs}
use Rattle.page_core.specs.declared.parts.Format.{Format}
use Rattle.page_core.specs.declared.parts.Format.TheVariants.{Html, Text as PlainText}
use Rattle.show_words.specs.declared.requests.CommandWord.{CommandWord}
use Rattle.show_words.specs.declared.requests.CommandWord.TheVariants.{Page, Open}
use Rattle.show_words.specs.Words.{Task, View, page, open_goals, Asks, Say, SayView, AskForHelp, AskNothing}
use Rattle.show_words.specs.Words.{app_for, word_of, word_text}

-- command words of one text are one
pub one_word : (word other : CommandWord) → word_text word ≡ word_text other → word ≡ other
one_word (Page Html) (Page Html) same = refl
one_word (Page PlainText) (Page PlainText) same = refl
one_word Open Open same = refl
one_word (Page Html) (Page PlainText) same = absurd (differs (codes "page") (codes "text") refl same)
one_word (Page Html) Open same = absurd (differs (codes "page") (codes "open") refl same)
one_word (Page PlainText) (Page Html) same = absurd (differs (codes "text") (codes "page") refl same)
one_word (Page PlainText) Open same = absurd (differs (codes "text") (codes "open") refl same)
one_word Open (Page Html) same = absurd (differs (codes "open") (codes "page") refl same)
one_word Open (Page PlainText) same = absurd (differs (codes "open") (codes "text") refl same)

abbrev is_page : CommandWord → Bool
is_page (Page form) = true
is_page Open = false

abbrev form_of : Format → CommandWord → Format
form_of usual (Page form) = form
form_of usual Open = usual

-- matches say one view of a command word
one_view :
    (rows : List Row) (view other : View) → word_of view ≡ word_of other → SayView rows view →
    SayView rows other → view ≡ other
one_view rows (page form report) (page form_too report_too) same says says_too =
    ap₂ page (ap (form_of form) same) (one_text _ report report_too says says_too)
one_view rows (open_goals bounds) (open_goals bounds_too) same says says_too =
    ap open_goals (one_proof_bounds rows bounds bounds_too says says_too)
one_view rows (page form report) (open_goals bounds) same says says_too =
    absurd (true≢false (ap is_page same))
one_view rows (open_goals bounds) (page form report) same says says_too =
    absurd (true≢false (sym (ap is_page same)))

one_said :
    (rows : List Row) (task other : Task) → word_of task.view ≡ word_of other.view → Say rows task →
    Say rows other → task ≡ other
one_said rows task other word says says_too =
    let file = one_text _ task.file other.file says.file says_too.file in
    let goal = sym says.goal ∙ says_too.goal in
    let view = one_view rows task.view other.view word says.view says_too.view in
    λ i. record { file = file i; goal = goal i; view = view i }

pub one_task :
    (words : List Text) (task other : Task) → Asks words task → Asks words other → task ≡ other
one_task words task other asks asks_too =
    let word = one_word (word_of task.view) (word_of other.view)
    (one_name words _ _ asks.named asks_too.named) in
    let says_too =
    subst (λ (w : CommandWord). Say (matches_of (app_for w) words) other) (sym word) asks_too.task_is in
    one_said (matches_of (app_for (word_of task.view)) words) task other word asks.task_is says_too

-- a command word asks for no help
no_help_word : (word : CommandWord) → IsHelpWord (word_text word) → ⊥
no_help_word (Page Html) (inl is) = differs (codes "page") (codes "--help") refl is
no_help_word (Page Html) (inr (inl is)) = differs (codes "page") (codes "-h") refl is
no_help_word (Page Html) (inr (inr is)) = differs (codes "page") (codes "help") refl is
no_help_word (Page PlainText) (inl is) = differs (codes "text") (codes "--help") refl is
no_help_word (Page PlainText) (inr (inl is)) = differs (codes "text") (codes "-h") refl is
no_help_word (Page PlainText) (inr (inr is)) = differs (codes "text") (codes "help") refl is
no_help_word Open (inl is) = differs (codes "open") (codes "--help") refl is
no_help_word Open (inr (inl is)) = differs (codes "open") (codes "-h") refl is
no_help_word Open (inr (inr is)) = differs (codes "open") (codes "help") refl is

pub no_help_first :
    (words : List Text) (word : CommandWord) → IsNamed (word_text word) words → BeginWithHelp words → ⊥
no_help_first [] word named asks = asks
no_help_first (first ∷ words) word named asks =
    no_help_word word (subst (λ (w : Text). IsHelpWord w) named asks)

none_among : (kinds : Kinds) (kind : ErrorKind) → kinds ≡ [] → IsAmong kind kinds → ⊥
none_among [] kind none among = among
none_among (k ∷ ks) kind none among = cc

pub no_help : (words : List Text) (task : Task) → Asks words task → AskForHelp words → ⊥
no_help words task asks (inl first) = no_help_first words (word_of task.view) asks.named first
no_help words task asks (inr (word, named, among)) =
    let same = one_word word (word_of task.view) (one_name words _ _ named asks.named) in
    none_among (fault_of (app_for (word_of task.view)) words) DisplayHelp asks.taken
    (subst (λ (w : CommandWord). IsAmong DisplayHelp (fault_of (app_for w) words)) same among)

pub not_nothing : (words : List Text) (task : Task) → Asks words task → AskNothing words → ⊥
not_nothing words task asks nothing =
    (nothing.refused (word_of task.view) asks.named).fault asks.taken
