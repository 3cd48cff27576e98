-- What words ask for: a task on a file, or goals that are generated.
use Rattle.std.specs.Prelude.{◌≡◌, ◌≢◌, ◌↔◌, IsTrue, ℕ, Bool, List, [], ◌∷◌, codes}
use Rattle.std.specs.List.{AllByRecursion}
use Rattle.clap.specs.Words.{App, Row, Text, fault_of, matches_of}
use Rattle.command_line.specs.declared.bounds.SearchBounds.{SearchBounds}
use Rattle.command_line.specs.declared.bounds.ProofBounds.{ProofBounds}
use Rattle.command_line.specs.Ranges.{depth_range, tries_range, steps_range, plain_range, nodes_range, goals_range}
use Rattle.command_line.specs.Apps.{refute_app, prove_app, eval_app, check_app, replay_app, upgrade_app}
use Rattle.command_line.specs.Apps.{load_app, trim_app, session_app}
use Rattle.command_line.specs.Matches.{HasNumber, HasWord, IsGiven, Takes}

-- what is done with the specification of a file
pub data Task : Type 0 where
  refuting : (bounds : SearchBounds) → Task
  proving : (bounds : ProofBounds) → Task
  evaluating : (term : List ℕ) (steps : ℕ) → Task
  checking : (print : Bool) → Task
  replaying : (report : List ℕ) → Task
  upgrading : Task
  trimming : (report : List ℕ) → Task
  carrying_out : (path : List ℕ) → Task

-- the simple command that reads the words of a task
abbrev pub app_for : Task → App
app_for (refuting bounds) = refute_app
app_for (proving bounds) = prove_app
app_for (evaluating term steps) = eval_app
app_for (checking print) = check_app
app_for (replaying report) = replay_app
app_for upgrading = upgrade_app
app_for (trimming report) = trim_app
app_for (carrying_out path) = session_app

-- how far the search for counterexamples goes
pub record AreBounds (rows : List Row) (bounds : SearchBounds) : Type 0 where
  pub depth : HasNumber rows (codes "depth") depth_range bounds.depth
  pub tries : HasNumber rows (codes "tries") tries_range bounds.tries
  pub steps : HasNumber rows (codes "steps") steps_range bounds.steps

-- how far the search for counterexamples and then for proofs goes
pub record AreProofBounds (rows : List Row) (bounds : ProofBounds) : Type 0 where
  pub search : AreBounds rows bounds.search
  pub plain : HasNumber rows (codes "plain") plain_range bounds.plain
  pub nodes : HasNumber rows (codes "nodes") nodes_range bounds.nodes

-- the matches say what is to be done
abbrev pub Say : List Row → Task → Type 0
Say rows (refuting bounds) = AreBounds rows bounds
Say rows (proving bounds) = AreProofBounds rows bounds
Say rows (evaluating term steps) =
    HasWord rows (codes "TERM") term × HasNumber rows (codes "steps") steps_range steps
Say rows (checking print) = IsTrue print ↔ IsGiven rows (codes "print")
Say rows (replaying report) = HasWord rows (codes "REPORT") report
Say rows upgrading = Unit {0}
Say rows (trimming report) = HasWord rows (codes "REPORT") report
Say rows (carrying_out path) = HasWord rows (codes "COMMANDS") path

-- the first word is this one
abbrev pub IsNamed : Text → List Text → Type 0
IsNamed name [] = ⊥
IsNamed name (word ∷ words) = word ≡ name

-- the words ask for this task on this file
pub record Asks (words : List (List ℕ)) (file : List ℕ) (task : Task) : Type 0 where
  pub named : IsNamed (app_for task).top.name words
  pub taken : Takes (app_for task) words
  pub file_is : HasWord (matches_of (app_for task) words) (codes "FILE") file
  pub task_is : Say (matches_of (app_for task) words) task

-- the words ask for this many goals, generated, proved and replayed
pub record AsksToLoad (words : List (List ℕ)) (goals : ℕ) : Type 0 where
  pub named : IsNamed load_app.top.name words
  pub taken : Takes load_app words
  pub goals_are : HasNumber (matches_of load_app words) (codes "N") goals_range goals

-- the commands, each as `clap` sees it
abbrev pub commands : List App
commands =
    check_app ∷ eval_app ∷ prove_app ∷ refute_app ∷ replay_app ∷ load_app ∷ upgrade_app ∷ trim_app
    ∷ session_app ∷ []

-- if the first word names the command, `clap` finds a fault in the words, help among them
abbrev pub AreRefusedBy : List Text → App → Type 0
AreRefusedBy words app = IsNamed app.top.name words → fault_of app words ≢ []

-- the words ask for nothing: the first one names no command, or `clap` finds a fault in them
pub record AskNothing (words : List Text) : Type 0 where
  pub refused : AllByRecursion (AreRefusedBy words) commands
