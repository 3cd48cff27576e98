-- What the matches of a command say of the words, and that words that ask for nothing ask for no task.
use Rattle.std.proofs.Common.{◌≡◌, ◌∙◌, ℕ, List, sym, subst, ap, refl, codes, Some, slice_get}
use Rattle.clap.specs.Words.{App, Row, Text, matches_of}
use Rattle.command_line.specs.Apps.{depth_rule, tries_rule, steps_rule, load_app}
use Rattle.command_line.specs.Commands.{IsAsked, file_of, task_of}
use Rattle.command_line.specs.Entries.{IsRequestOf, app_of_word}
use Rattle.command_line.specs.Matches.{HasNumber, HasWord}
use Rattle.command_line.specs.Readings.{AreMatches, HasArguments, HasSomeBounds, HasSomeNumber, HasSomeWord}
use Rattle.command_line.specs.Rules.{number_rule, numeral_rule, word_rule}
use Rattle.command_line.specs.Tasks.{Task, refuting, proving, evaluating, checking, replaying, upgrading}
use Rattle.command_line.specs.Tasks.{trimming, carrying_out, app_for, Say, IsNamed, Asks, AsksToLoad}
use Rattle.command_line.specs.Tasks.{AskNothing}
use Rattle.command_line.specs.declared.commands.Request.{Request}
use Rattle.command_line.specs.declared.commands.Request.TheVariants.{OnFile, Load}
use Rattle.command_line.specs.declared.ranges.NumberRange.{NumberRange}
use Rattle.command_line.specs.declared.ranges.TheConstants.{DEPTHS, TRIES, STEPS, GOALS, USUAL_DEPTH}
use Rattle.command_line.specs.declared.ranges.TheConstants.{USUAL_TRIES, USUAL_STEPS}
use Rattle.command_line.specs.declared.table.CommandWord.{CommandWord}
use Rattle.command_line.proofs.OwnNames.{differs}

-- what a command takes is there
module _
    (word is_word : CommandWord) (rows : List Row) (is : word ≡ is_word)
    (given : HasArguments (app_of_word word) rows) where
  there : HasArguments (app_of_word is_word) rows
  there = subst (λ (w : CommandWord). HasArguments (app_of_word w) rows) is given

  -- the k-th argument, a positional word or a number
  pub word_at :
      (k : ℕ) (name : Text) → slice_get (app_of_word is_word).top.rules k ≡ Some (word_rule name) →
      HasSomeWord rows name
  word_at k name at = there.has_words k name at

  pub number_at :
      (k : ℕ) (name usual : Text) (range : NumberRange) →
      slice_get (app_of_word is_word).top.rules k ≡ Some (number_rule name range usual) →
      HasSomeNumber rows name range
  number_at k name usual range at = there.has_numbers k name usual range at

  pub numeral_at :
      (k : ℕ) (name : Text) (range : NumberRange) →
      slice_get (app_of_word is_word).top.rules k ≡ Some (numeral_rule name range) →
      HasSomeNumber rows name range
  numeral_at k name range at = there.has_numerals k name range at

  -- the three numbers of a search, after the file
  pub bounds_at :
      slice_get (app_of_word is_word).top.rules 1 ≡ Some depth_rule →
      slice_get (app_of_word is_word).top.rules 2 ≡ Some tries_rule →
      slice_get (app_of_word is_word).top.rules 3 ≡ Some steps_rule → HasSomeBounds rows
  bounds_at depth tries steps = record {
    depth = number_at 1 (codes "depth") USUAL_DEPTH.now DEPTHS depth;
    tries = number_at 2 (codes "tries") USUAL_TRIES.now TRIES tries;
    steps = number_at 3 (codes "steps") USUAL_STEPS.now STEPS steps;
  }

-- what is read of a command's matches is what the words ask for
pub request_asked :
    (words : List Text) (word : CommandWord) (rows : List Row) →
    IsNamed (app_of_word word).top.name words → AreMatches (app_of_word word) words rows →
    (request : Request) → IsRequestOf word rows request → IsAsked words (Some request)
request_asked words word rows named matches (OnFile command) is =
    let app : app_of_word word ≡ app_for (task_of command) = sym is.0 in
    let are : rows ≡ matches_of (app_for (task_of command)) words =
    matches.are ∙ ap (λ (a : App). matches_of a words) app in
    record {
      named = subst (λ (a : App). IsNamed a.top.name words) app named;
      taken = (subst (λ (a : App). AreMatches a words rows) app matches).taken;
      file_is = subst (λ (r : List Row). HasWord r (codes "FILE") (file_of command)) are is.1;
      task_is = subst (λ (r : List Row). Say r (task_of command)) are is.2;
    }
request_asked words word rows named matches (Load goals) is =
    let app : app_of_word word ≡ load_app = sym is.0 in
    let are : rows ≡ matches_of load_app words =
    matches.are ∙ ap (λ (a : App). matches_of a words) app in
    record {
      named = subst (λ (a : App). IsNamed a.top.name words) app named;
      taken = (subst (λ (a : App). AreMatches a words rows) app matches).taken;
      goals_are = subst (λ (r : List Row). HasNumber r (codes "N") GOALS goals) are is.1;
    }

-- words that ask for nothing ask for no task, and for no goals
pub asks_no_task :
    (words : List Text) (file : Text) (task : Task) → AskNothing words → Asks words file task → ⊥
asks_no_task words file (checking print) nothing asks = nothing.refused.0 asks.named asks.taken
asks_no_task words file (evaluating term steps) nothing asks =
    nothing.refused.1.0 asks.named asks.taken
asks_no_task words file (proving bounds) nothing asks =
    nothing.refused.1.1.0 asks.named asks.taken
asks_no_task words file (refuting bounds) nothing asks =
    nothing.refused.1.1.1.0 asks.named asks.taken
asks_no_task words file (replaying report) nothing asks =
    nothing.refused.1.1.1.1.0 asks.named asks.taken
asks_no_task words file upgrading nothing asks =
    nothing.refused.1.1.1.1.1.1.0 asks.named asks.taken
asks_no_task words file (trimming report) nothing asks =
    nothing.refused.1.1.1.1.1.1.1.0 asks.named asks.taken
asks_no_task words file (carrying_out path) nothing asks =
    nothing.refused.1.1.1.1.1.1.1.1.0 asks.named asks.taken

pub asks_no_load : (words : List Text) (goals : ℕ) → AskNothing words → AsksToLoad words goals → ⊥
asks_no_load words goals nothing asks = nothing.refused.1.1.1.1.1.0 asks.named asks.taken

-- no task's command has the name of the one that generates goals
pub no_task_loads : (task : Task) → (app_for task).top.name ≡ codes "load" → ⊥
no_task_loads (refuting bounds) same = differs (codes "refute") (codes "load") refl same
no_task_loads (proving bounds) same = differs (codes "prove") (codes "load") refl same
no_task_loads (evaluating term steps) same = differs (codes "eval") (codes "load") refl same
no_task_loads (checking print) same = differs (codes "check") (codes "load") refl same
no_task_loads (replaying report) same = differs (codes "replay") (codes "load") refl same
no_task_loads upgrading same = differs (codes "upgrade") (codes "load") refl same
no_task_loads (trimming report) same = differs (codes "trim") (codes "load") refl same
no_task_loads (carrying_out path) same = differs (codes "session") (codes "load") refl same
