-- Words ask for one exploration at most, and those that do ask for nothing else.
use Rattle.std.proofs.Common.{◌≡◌, ◌∙◌, List, [], ◌∷◌, codes, inl, inr, refl, sym, subst}
use Rattle.clap.specs.Words.{IsAmong, Row, Text, fault_of, matches_of}
use Rattle.clap.specs.Kinds.{Kinds}
use Rattle.clap.specs.declared.error.kind.ErrorKind.{ErrorKind}
use Rattle.clap.specs.declared.error.kind.ErrorKind.TheVariants.{DisplayHelp}
use Rattle.command_line.specs.Helps.{BeginWithHelp, IsHelpWord}
use Rattle.command_line.specs.Tasks.{IsNamed}
use Rattle.command_line.proofs.Entries.{one_name}
use Rattle.command_line.proofs.OneRequest.{one_flag, one_number, one_text}
use Rattle.command_line.proofs.OwnNames.{differs}
use Rattle.explore_words.specs.declared.requests.Form.{Form}
use Rattle.explore_words.specs.declared.requests.Form.TheVariants.{Text as WholeText, Report}
use Rattle.explore_words.specs.Words.{Task, Asks, Say, AskForHelp, AskNothing, app_for, command_word}

-- forms of one command word are one
one_form : (form other : Form) → command_word form ≡ command_word other → form ≡ other
one_form WholeText WholeText same = refl
one_form WholeText Report same = absurd (differs (codes "text") (codes "report") refl same)
one_form Report WholeText same = absurd (differs (codes "report") (codes "text") refl same)
one_form Report Report same = refl

-- matches say one exploration of a form
one_said :
    (rows : List Row) (task other : Task) → task.form ≡ other.form → Say rows task → Say rows other →
    task ≡ other
one_said rows task other form says says_too =
    let file = one_text _ task.file other.file says.file says_too.file in
    let goal = sym says.goal ∙ says_too.goal in
    let work = one_number rows _ _ task.work other.work says.work says_too.work in
    let size = one_number rows _ _ task.size other.size says.size says_too.size in
    let samples = one_number rows _ _ task.samples other.samples says.samples says_too.samples in
    let no_lemmas = one_flag _ task.no_lemmas other.no_lemmas says.no_lemmas says_too.no_lemmas in
    let quiet = one_flag _ task.quiet other.quiet says.quiet says_too.quiet in
    λ i. record {
      form = form i;
      file = file i;
      goal = goal i;
      work = work i;
      size = size i;
      samples = samples i;
      no_lemmas = no_lemmas i;
      quiet = quiet i;
    }

pub one_exploration :
    (words : List Text) (task other : Task) → Asks words task → Asks words other → task ≡ other
one_exploration words task other asks asks_too =
    let form = one_form task.form other.form (one_name words _ _ asks.named asks_too.named) in
    let says_too =
    subst (λ (f : Form). Say (matches_of (app_for f) words) other) (sym form) asks_too.task_is in
    one_said (matches_of (app_for task.form) words) task other form asks.task_is says_too

-- a command word asks for no help
no_help_word : (form : Form) → IsHelpWord (command_word form) → ⊥
no_help_word WholeText (inl is) = differs (codes "text") (codes "--help") refl is
no_help_word WholeText (inr (inl is)) = differs (codes "text") (codes "-h") refl is
no_help_word WholeText (inr (inr is)) = differs (codes "text") (codes "help") refl is
no_help_word Report (inl is) = differs (codes "report") (codes "--help") refl is
no_help_word Report (inr (inl is)) = differs (codes "report") (codes "-h") refl is
no_help_word Report (inr (inr is)) = differs (codes "report") (codes "help") refl is

no_help_first :
    (words : List Text) (form : Form) → IsNamed (command_word form) words → BeginWithHelp words → ⊥
no_help_first [] form named asks = asks
no_help_first (word ∷ words) form named asks =
    no_help_word form (subst (λ (w : Text). IsHelpWord w) named asks)

none_among : (kinds : Kinds) (kind : ErrorKind) → kinds ≡ [] → IsAmong kind kinds → ⊥
none_among [] kind none among = among
none_among (k ∷ ks) kind none among = cc

pub no_help : (words : List Text) (task : Task) → Asks words task → AskForHelp words → ⊥
no_help words task asks (inl first) = no_help_first words task.form asks.named first
no_help words task asks (inr (form, named, among)) =
    let same = one_form form task.form (one_name words _ _ named asks.named) in
    none_among (fault_of (app_for task.form) words) DisplayHelp asks.taken
    (subst (λ (f : Form). IsAmong DisplayHelp (fault_of (app_for f) words)) same among)

pub not_nothing : (words : List Text) (task : Task) → Asks words task → AskNothing words → ⊥
not_nothing words task asks nothing = (nothing.refused task.form asks.named).fault asks.taken
