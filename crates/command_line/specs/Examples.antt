-- What words that are written out ask for.
use Rattle.std.specs.Prelude.{List, [], ◌∷◌, true, false, codes}
use Rattle.clap.specs.Words.{Text}
use Rattle.command_line.specs.declared.bounds.SearchBounds.{SearchBounds}
use Rattle.command_line.specs.declared.bounds.ProofBounds.{ProofBounds}
use Rattle.command_line.specs.Tasks.{refuting, proving, evaluating, checking, replaying, upgrading, trimming}
use Rattle.command_line.specs.Tasks.{carrying_out, Asks, AsksToLoad, AskNothing}
use Rattle.command_line.specs.Usual.{usual_search, usual_bounds}

abbrev pub refute : List Text → List Text
refute words = codes "refute" ∷ words

abbrev pub prove : List Text → List Text
prove words = codes "prove" ∷ words

abbrev pub eval : List Text → List Text
eval words = codes "eval" ∷ words

abbrev pub check : List Text → List Text
check words = codes "check" ∷ words

abbrev pub replay : List Text → List Text
replay words = codes "replay" ∷ words

abbrev pub upgrade : List Text → List Text
upgrade words = codes "upgrade" ∷ words

abbrev pub trim : List Text → List Text
trim words = codes "trim" ∷ words

abbrev pub session : List Text → List Text
session words = codes "session" ∷ words

abbrev pub load : List Text → List Text
load words = codes "load" ∷ words

abbrev pub given : SearchBounds
given = record { depth = 0; tries = 7; steps = 2000 }

abbrev pub given_proof : ProofBounds
given_proof = record { search = usual_search; plain = 1000; nodes = 0 }

-- every option with its least number, and with its greatest
abbrev pub least_words : List Text
least_words = codes "a" ∷ codes "--depth=0" ∷ codes "--tries=1" ∷ codes "--steps=1"
    ∷ codes "--plain=0" ∷ codes "--nodes=0" ∷ []

abbrev pub least_numbers : ProofBounds
least_numbers =
    record { search = record { depth = 0; tries = 1; steps = 1 }; plain = 0; nodes = 0 }

abbrev pub greatest_words : List Text
greatest_words = codes "a" ∷ codes "--depth=8" ∷ codes "--tries=1000000" ∷ codes "--steps=100000"
    ∷ codes "--plain=1000" ∷ codes "--nodes=10000" ∷ []

abbrev pub greatest_numbers : ProofBounds
greatest_numbers = record {
  search = record { depth = 8; tries = 1000000; steps = 100000 };
  plain = 1000;
  nodes = 10000;
}

-- words that ask for a task
pub record Asking : Type 0 where
  -- the usual numbers if no word gives one
  pub plain : Asks (refute (codes "a" ∷ [])) (codes "a") (refuting usual_search)
  -- numbers before and after the file, with a plus, leading zeros and `=`
  pub numbers : Asks (refute (codes "--depth" ∷ codes "+0" ∷ codes "--tries=007" ∷ codes "a"
      ∷ codes "--steps" ∷ codes "2000" ∷ [])) (codes "a") (refuting given)
  -- after `--` no word is an option
  pub behind_dashes : Asks (refute (codes "--" ∷ codes "--help" ∷ [])) (codes "--help")
      (refuting usual_search)
  pub proved : Asks (prove (codes "a" ∷ [])) (codes "a") (proving usual_bounds)
  -- the greatest length and no nodes
  pub proof_numbers : Asks (prove (codes "a" ∷ codes "--nodes=0" ∷ codes "--plain" ∷ codes "1000"
      ∷ []))
      (codes "a") (proving given_proof)
  -- each option takes the numbers from the least to the greatest
  pub least : Asks (prove least_words) (codes "a") (proving least_numbers)
  pub greatest : Asks (prove greatest_words) (codes "a") (proving greatest_numbers)
  -- `-` is a positional word
  pub one_dash : Asks (eval (codes "-" ∷ codes "x" ∷ [])) (codes "-") (evaluating (codes "x") 1000)
  -- the empty word is one too, and `help` is no question
  pub empty : Asks (eval (codes "" ∷ codes "help" ∷ [])) (codes "") (evaluating (codes "help") 1000)
  pub printed : Asks (check (codes "--print" ∷ codes "a" ∷ [])) (codes "a") (checking true)
  pub unprinted : Asks (check (codes "a" ∷ [])) (codes "a") (checking false)
  -- the report comes after the file
  pub replayed : Asks (replay (codes "a" ∷ codes "b" ∷ [])) (codes "a") (replaying (codes "b"))
  pub upgraded : Asks (upgrade (codes "a" ∷ [])) (codes "a") upgrading
  -- so does the one that is made shorter
  pub trimmed : Asks (trim (codes "a" ∷ codes "b" ∷ [])) (codes "a") (trimming (codes "b"))
  -- the commands of a proof by hand come after the file
  pub carried_out : Asks (session (codes "a" ∷ codes "b" ∷ [])) (codes "a") (carrying_out (codes "b"))
  -- a plus and leading zeros, up to the greatest number
  pub loaded : AsksToLoad (load (codes "+0200" ∷ [])) 200
  pub one_goal : AsksToLoad (load (codes "1" ∷ [])) 1

-- words that ask for nothing
pub record Refused : Type 0 where
  pub no_words : AskNothing []
  pub no_command : AskNothing (codes "help" ∷ codes "a" ∷ [])
  pub no_file : AskNothing (refute [])
  pub two_files : AskNothing (refute (codes "a" ∷ codes "b" ∷ []))
  pub help : AskNothing (refute (codes "a" ∷ codes "--help" ∷ []))
  pub too_deep : AskNothing (refute (codes "a" ∷ codes "--depth" ∷ codes "9" ∷ []))
  pub no_tries : AskNothing (refute (codes "a" ∷ codes "--tries" ∷ codes "0" ∷ []))
  pub too_many_tries : AskNothing (refute (codes "a" ∷ codes "--tries" ∷ codes "1000001" ∷ []))
  pub twice : AskNothing (refute (codes "a" ∷ codes "--depth=2" ∷ codes "--depth=2" ∷ []))
  pub no_number : AskNothing (refute (codes "a" ∷ codes "--depth=" ∷ []))
  pub below_zero : AskNothing (refute (codes "a" ∷ codes "--depth=-0" ∷ []))
  pub too_long : AskNothing (prove (codes "a" ∷ codes "--plain" ∷ codes "1001" ∷ []))
  pub too_many_nodes : AskNothing (prove (codes "a" ∷ codes "--nodes" ∷ codes "10001" ∷ []))
  pub option_of_prove : AskNothing (refute (codes "a" ∷ codes "--nodes" ∷ codes "0" ∷ []))
  pub another_option : AskNothing (eval (codes "a" ∷ codes "x" ∷ codes "--depth" ∷ codes "2" ∷ []))
  pub no_steps : AskNothing (eval (codes "a" ∷ codes "x" ∷ codes "--steps" ∷ codes "0" ∷ []))
  pub too_many_steps : AskNothing (eval
      (codes "a" ∷ codes "x" ∷ codes "--steps" ∷ codes "100001" ∷ []))
  pub no_term : AskNothing (eval (codes "a" ∷ []))
  pub flag_with_text : AskNothing (check (codes "a" ∷ codes "--print=x" ∷ []))
  pub no_report : AskNothing (replay (codes "a" ∷ []))
  pub no_goals : AskNothing (load (codes "0" ∷ []))
  pub too_many_goals : AskNothing (load (codes "201" ∷ []))
  pub no_number_of_goals : AskNothing (load [])
  pub two_numbers : AskNothing (load (codes "1" ∷ codes "2" ∷ []))
  pub option_of_load : AskNothing (load (codes "4" ∷ codes "--steps" ∷ codes "5" ∷ []))
  pub nothing_to_upgrade : AskNothing (upgrade [])
  pub two_to_upgrade : AskNothing (upgrade (codes "a" ∷ codes "b" ∷ []))
  pub option_of_upgrade : AskNothing (upgrade (codes "a" ∷ codes "--print" ∷ []))
  pub two_reports : AskNothing (replay (codes "a" ∷ codes "b" ∷ codes "c" ∷ []))
  pub nothing_to_trim : AskNothing (trim [])
  pub trim_by_no_report : AskNothing (trim (codes "a" ∷ []))
  pub two_to_trim : AskNothing (trim (codes "a" ∷ codes "b" ∷ codes "c" ∷ []))
  pub option_of_trim : AskNothing (trim (codes "a" ∷ codes "b" ∷ codes "--print" ∷ []))
  pub session_without_commands : AskNothing (session (codes "a" ∷ []))
  pub two_lists_of_commands : AskNothing (session (codes "a" ∷ codes "b" ∷ codes "c" ∷ []))
  pub option_of_session : AskNothing (session (codes "a" ∷ codes "b" ∷ codes "--steps" ∷ codes "5" ∷ []))

pub record WorkedExamples : Type 0 where
  pub asking : Asking
  pub refused : Refused
