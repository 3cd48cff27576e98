-- The table of commands: each entry is its command, and no two have one name.
use Rattle.std.proofs.Common.{◌≡◌, ◌≢◌, ◌∙◌, ◌<◌, ◌+◌, ◌⊎◌, inl, inr, ℕ, zero, suc, not, true, false, true≢false, Bool}
use Rattle.std.proofs.Common.{◌&&◌, List}
use Rattle.std.proofs.Common.{[], ◌∷◌, ◌++◌, sym, subst, refl, ap, map, take, get_or, length, add-one}
use Rattle.std.proofs.Math.Seq.{take-suc}
use Rattle.std.proofs.lemmas.List.{map-append}
use Rattle.std.proofs.lemmas.Slice.Eq.{bytes_eq-Decides}
use Rattle.std.specs.Borrow.{Bor}
use Rattle.std.specs.List.{AllByRecursion}
use Rattle.std.specs.Str.{bytes_eq}
use Rattle.term_core.proofs.Items.{all_append, all_at_or}
use Rattle.clap.specs.Words.{App, Rule, Text, new_app, with_rule}
use Rattle.command_line.specs.Apps.{with_rules}
use Rattle.command_line.specs.FlatApps.{IsFlat}
use Rattle.command_line.specs.Matches.{Takes}
use Rattle.command_line.specs.Tasks.{commands, IsNamed, AreRefusedBy, AskNothing}
use Rattle.command_line.specs.Entries.{IsEntry, NamesNone, app_of_word, app_taking, rule_of_argument}
use Rattle.command_line.specs.declared.table.Argument.{Argument}
use Rattle.command_line.specs.declared.table.CommandWord.{CommandWord}
use Rattle.command_line.specs.declared.table.CommandWord.TheVariants.{Check, Eval, Prove, Refute, Replay}
use Rattle.command_line.specs.declared.table.CommandWord.TheVariants.{Load, Upgrade, Trim, Session}
use Rattle.command_line.proofs.OwnNames.{differs}

-- an entry as the code has it: the name, the command, and what it takes
abbrev pub Item : Type 0
Item = Bor (List ℕ) × CommandWord × Bor (List Argument)

-- one argument more
pub with_one_more :
    (app : App) (rules : List Rule) (rule : Rule) →
    with_rules app (rules ++ rule ∷ []) ≡ with_rule (with_rules app rules) rule
with_one_more app [] rule = refl
with_one_more app (r ∷ rules) rule = with_one_more (with_rule app r) rules rule

pub one_argument_more :
    (name : Text) (takes : List Argument) (i : ℕ) (d : Argument) → i < length takes →
    with_rule (app_taking name (take i takes)) (rule_of_argument (get_or takes i d))
    ≡ app_taking name (take (i + 1) takes)
one_argument_more name takes i d here =
    let more : take (i + 1) takes ≡ take i takes ++ get_or takes i d ∷ [] =
    ap (λ n. take n takes) (add-one i) ∙ take-suc takes i d here in
    sym (ap (λ xs. app_taking name xs) more
    ∙ ap (λ rules. with_rules (new_app name) rules)
    (map-append rule_of_argument (take i takes) (get_or takes i d ∷ []))
    ∙ with_one_more (new_app name) (map rule_of_argument (take i takes))
    (rule_of_argument (get_or takes i d)))

-- the entry that is looked at has the name, or the name is none of those so far
module _ (name : Text) (entries : List Item) (i : ℕ) (d : Item) (here : i < length entries) where
  pub named_entry :
      AllByRecursion (λ (e : Item). IsEntry e.0.now e.1 e.2.now) entries →
      true ≡ bytes_eq (get_or entries i d).0.now name →
      IsEntry name (get_or entries i d).1 (get_or entries i d).2.now
  named_entry all same =
      let is : (get_or entries i d).0.now ≡ name =
      (bytes_eq-Decides (get_or entries i d).0.now name).0 (sym same) in
      subst (λ (n : Text). IsEntry n (get_or entries i d).1 (get_or entries i d).2.now) is
      (all_at_or (λ (e : Item). IsEntry e.0.now e.1 e.2.now) entries i d all here)

  pub other_name :
      AllByRecursion (λ (e : Item). name ≢ e.0.now) (take i entries) →
      false ≡ bytes_eq (get_or entries i d).0.now name →
      AllByRecursion (λ (e : Item). name ≢ e.0.now) (take (i + 1) entries)
  other_name others apart =
      let e = get_or entries i d in
      let more : take (i + 1) entries ≡ take i entries ++ e ∷ [] =
      ap (λ n. take n entries) (add-one i) ∙ take-suc entries i d here in
      let differs_here : name ≢ e.0.now =
      λ same. true≢false (sym ((bytes_eq-Decides e.0.now name).1 (sym same)) ∙ sym apart) in
      subst (λ xs. AllByRecursion (λ (x : Item). name ≢ x.0.now) xs) (sym more)
      (all_append (λ (x : Item). name ≢ x.0.now) (take i entries) (e ∷ []) others
      (differs_here, tt))

-- each command is one without subcommands, with names of its own
pub is_flat : (word : CommandWord) → IsFlat (app_of_word word)
is_flat Check =
    record { simple = refl; ready = refl; free = refl; leaf = refl; negates = refl; names = refl }
is_flat Eval =
    record { simple = refl; ready = refl; free = refl; leaf = refl; negates = refl; names = refl }
is_flat Prove =
    record { simple = refl; ready = refl; free = refl; leaf = refl; negates = refl; names = refl }
is_flat Refute =
    record { simple = refl; ready = refl; free = refl; leaf = refl; negates = refl; names = refl }
is_flat Replay =
    record { simple = refl; ready = refl; free = refl; leaf = refl; negates = refl; names = refl }
is_flat Load =
    record { simple = refl; ready = refl; free = refl; leaf = refl; negates = refl; names = refl }
is_flat Upgrade =
    record { simple = refl; ready = refl; free = refl; leaf = refl; negates = refl; names = refl }
is_flat Trim =
    record { simple = refl; ready = refl; free = refl; leaf = refl; negates = refl; names = refl }
is_flat Session =
    record { simple = refl; ready = refl; free = refl; leaf = refl; negates = refl; names = refl }

-- words have one first word at most
pub one_name :
    (words : List Text) (name other : Text) → IsNamed name words → IsNamed other words →
    name ≡ other
one_name [] name other is is_too = absurd is
one_name (word ∷ words) name other is is_too = sym is ∙ is_too

-- words that name no command ask for nothing
unnamed_among :
    (words : List Text) (name : Text) → IsNamed name words → (apps : List App) →
    AllByRecursion (λ (app : App). name ≢ app.top.name) apps →
    AllByRecursion (AreRefusedBy words) apps
unnamed_among words name is [] none = tt
unnamed_among words name is (app ∷ apps) none = (
  (λ named _. none.0 (one_name words _ _ is named)),
  unnamed_among words name is apps none.1,
)

pub unnamed :
    (words : List Text) (name : Text) → IsNamed name words → NamesNone name → AskNothing words
unnamed words name is none = record { refused = unnamed_among words name is commands none }

-- each of the commands is this one, or has another name
abbrev pub IsAloneAmong : App → List App → Type 0
IsAloneAmong is_app apps =
    AllByRecursion
    (λ (app : App). (app ≡ is_app) ⊎ (not (bytes_eq is_app.top.name app.top.name) ≡ true)) apps

abbrev is_other : App → App → Bool
is_other is_app app = not (bytes_eq is_app.top.name app.top.name)

abbrev are_others : App → List App → Bool
are_others is_app [] = true
are_others is_app (app ∷ apps) = is_other is_app app && are_others is_app apps

-- all have other names but the one of this index, from 0
abbrev is_alone_at : App → ℕ → List App → Bool
is_alone_at is_app k [] = true
is_alone_at is_app zero (app ∷ apps) = are_others is_app apps
is_alone_at is_app (suc k) (app ∷ apps) = is_other is_app app && is_alone_at is_app k apps

both_true : (a b : Bool) → (a && b) ≡ true → (a ≡ true) × (b ≡ true)
both_true true true e = (refl, refl)
both_true true false e = absurd (true≢false (sym e))
both_true false b e = absurd (true≢false (sym e))

others_by :
    (is_app : App) (apps : List App) → are_others is_app apps ≡ true → IsAloneAmong is_app apps
others_by is_app [] e = tt
others_by is_app (app ∷ apps) e =
    let both = both_true (is_other is_app app) (are_others is_app apps) e in
    (inr both.0, others_by is_app apps both.1)

alone_by :
    (is_app : App) (k : ℕ) (apps : List App) → get_or apps k is_app ≡ is_app →
    is_alone_at is_app k apps ≡ true → IsAloneAmong is_app apps
alone_by is_app k [] at e = tt
alone_by is_app zero (app ∷ apps) at e = (inl at, others_by is_app apps e)
alone_by is_app (suc k) (app ∷ apps) at e =
    let both = both_true (is_other is_app app) (is_alone_at is_app k apps) e in
    (inr both.0, alone_by is_app k apps at both.1)

alone : (word : CommandWord) → IsAloneAmong (app_of_word word) commands
alone Check = alone_by (app_of_word Check) 0 commands refl refl
alone Eval = alone_by (app_of_word Eval) 1 commands refl refl
alone Prove = alone_by (app_of_word Prove) 2 commands refl refl
alone Refute = alone_by (app_of_word Refute) 3 commands refl refl
alone Replay = alone_by (app_of_word Replay) 4 commands refl refl
alone Load = alone_by (app_of_word Load) 5 commands refl refl
alone Upgrade = alone_by (app_of_word Upgrade) 6 commands refl refl
alone Trim = alone_by (app_of_word Trim) 7 commands refl refl
alone Session = alone_by (app_of_word Session) 8 commands refl refl

refused_among :
    (is_app : App) (words : List Text) → IsNamed is_app.top.name words →
    (Takes is_app words → ⊥) → (apps : List App) → IsAloneAmong is_app apps →
    AllByRecursion (AreRefusedBy words) apps
refused_among is_app words named refused [] alone = tt
refused_among is_app words named refused (app ∷ apps) (inl same, alone) = (
  (λ _ taken. refused (subst (λ (a : App). Takes a words) same taken)),
  refused_among is_app words named refused apps alone,
)
refused_among is_app words named refused (app ∷ apps) (inr apart, alone) = (
  (λ named_too _. differs is_app.top.name app.top.name apart (one_name words _ _ named named_too)),
  refused_among is_app words named refused apps alone,
)

-- words that their command refuses ask for nothing
pub nothing_asked :
    (word : CommandWord) (words : List Text) → IsNamed (app_of_word word).top.name words →
    (Takes (app_of_word word) words → ⊥) → AskNothing words
nothing_asked word words named refused =
    record { refused = refused_among (app_of_word word) words named refused commands (alone word) }
