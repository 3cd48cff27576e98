-- The worked examples, by computing.
use Rattle.std.proofs.Common.{◌≡◌, ◌≤◌, ℕ, Bool, true, false, not, List, [], ◌∷◌, Some, refl, sym, arith}
use Rattle.std.proofs.Common.{codes}
use Rattle.std.specs.List.{AllByRecursion}
use Rattle.std.specs.Prelude.{◌↔◌, IsTrue}
use Rattle.std.specs.Str.{bytes_eq}
use Rattle.std.specs.Str.Parse.{IsNumeral, digits_value, without_leading_plus}
use Rattle.clap.specs.Words.{App, Row, Text, Kinds, fault_of, first_of, matches_of, one_of}
use Rattle.clap.specs.Walk.{is_empty}
use Rattle.clap.proofs.OnLiterals.{clap_on_literals}
use Rattle.command_line.specs.declared.ranges.NumberRange.{NumberRange}
use Rattle.command_line.specs.declared.ranges.TheConstants.{DEPTHS, TRIES, STEPS, PLAIN, NODES, GOALS}
use Rattle.command_line.specs.Apps.{refute_app, prove_app, eval_app, check_app, load_app}
use Rattle.command_line.specs.Matches.{HasNumber, IsGiven}
use Rattle.command_line.specs.Tasks.{commands, AreRefusedBy, refuting, proving, evaluating, checking}
use Rattle.command_line.specs.Tasks.{replaying, upgrading, trimming, carrying_out, Asks, AsksToLoad}
use Rattle.command_line.specs.Tasks.{AskNothing, AreBounds, AreProofBounds}
use Rattle.command_line.specs.Usual.{usual_search, usual_bounds}
use Rattle.command_line.specs.Examples.{Asking, Refused, refute, prove, eval, check, replay, upgrade, load}
use Rattle.command_line.specs.Examples.{trim, session, given, given_proof, least_words, least_numbers}
use Rattle.command_line.specs.Examples.{greatest_words, greatest_numbers}
use Rattle.command_line.proofs.OwnNames.{differs}
use Rattle.command_line.proofs.ReadLemmas.{text_compared}
use Rattle.command_line.proofs.Entries.{nothing_asked, unnamed}
use Rattle.command_line.specs.Entries.{app_of_word}
use Rattle.command_line.specs.declared.table.CommandWord.{CommandWord}
use Rattle.command_line.specs.declared.table.CommandWord.TheVariants.{Check, Eval, Prove, Refute, Replay}
use Rattle.command_line.specs.declared.table.CommandWord.TheVariants.{Load, Upgrade, Trim, Session}

faulty : (ks : Kinds) → is_empty ks ≡ false → ks ≡ [] → ⊥
faulty [] some none = cc
faulty (k ∷ ks) some none = cc

-- words with a fault ask for nothing
no_words_of :
    (word : CommandWord) (words : List Text) →
    is_empty (fault_of (app_of_word word) ((app_of_word word).top.name ∷ words)) ≡ false →
    AskNothing ((app_of_word word).top.name ∷ words)
no_words_of word words fault =
    nothing_asked word ((app_of_word word).top.name ∷ words) refl (faulty _ fault)

no_words : (apps : List App) → AllByRecursion (AreRefusedBy []) apps
no_words [] = tt
no_words (app ∷ apps) = ((λ named _. named), no_words apps)

no_command : AskNothing (codes "help" ∷ codes "a" ∷ [])
no_command =
    let other = λ (name : Text) (apart : not (bytes_eq (codes "help") name) ≡ true).
    differs (codes "help") name apart in
    unnamed (codes "help" ∷ codes "a" ∷ []) (codes "help") refl (
      other _ refl,
      (
        other _ refl,
        (
          other _ refl,
          (
            other _ refl,
            (other _ refl, (other _ refl, (other _ refl, (other _ refl, (other _ refl, tt))))),
          ),
        ),
      ),
    )

pub refused : Refused
unfolding clap_on_literals
refused = record {
  no_words = record { refused = no_words commands };
  no_command = no_command;
  no_file = no_words_of Refute _ refl;
  two_files = no_words_of Refute _ refl;
  help = no_words_of Refute _ refl;
  too_deep = no_words_of Refute _ refl;
  no_tries = no_words_of Refute _ refl;
  too_many_tries = no_words_of Refute _ refl;
  twice = no_words_of Refute _ refl;
  no_number = no_words_of Refute _ refl;
  below_zero = no_words_of Refute _ refl;
  too_long = no_words_of Prove _ refl;
  too_many_nodes = no_words_of Prove _ refl;
  option_of_prove = no_words_of Refute _ refl;
  another_option = no_words_of Eval _ refl;
  no_steps = no_words_of Eval _ refl;
  too_many_steps = no_words_of Eval _ refl;
  no_term = no_words_of Eval _ refl;
  flag_with_text = no_words_of Check _ refl;
  no_report = no_words_of Replay _ refl;
  no_goals = no_words_of Load _ refl;
  too_many_goals = no_words_of Load _ refl;
  no_number_of_goals = no_words_of Load _ refl;
  two_numbers = no_words_of Load _ refl;
  option_of_load = no_words_of Load _ refl;
  nothing_to_upgrade = no_words_of Upgrade _ refl;
  two_to_upgrade = no_words_of Upgrade _ refl;
  option_of_upgrade = no_words_of Upgrade _ refl;
  two_reports = no_words_of Replay _ refl;
  nothing_to_trim = no_words_of Trim _ refl;
  trim_by_no_report = no_words_of Trim _ refl;
  two_to_trim = no_words_of Trim _ refl;
  option_of_trim = no_words_of Trim _ refl;
  session_without_commands = no_words_of Session _ refl;
  two_lists_of_commands = no_words_of Session _ refl;
  option_of_session = no_words_of Session _ refl;
}

-- a text of digits has the number that it writes
number : (rows : List Row) (name : Text) (range : NumberRange) (n : ℕ) (text : Text) →
    one_of name rows ≡ Some text → IsNumeral 10 (without_leading_plus text)
    → digits_value 10 (without_leading_plus text) ≡ n → range.least ≤ n → n ≤ range.most → HasNumber rows name range n
number rows name range n text found digits value least most =
    record {
      text = text;
      found = found;
      writes = record { digits = digits; value = value };
      least = least;
      most = most;
    }

usual_steps : (rows : List Row) → one_of (codes "steps") rows ≡ Some (codes "1000") →
    HasNumber rows (codes "steps") STEPS 1000
usual_steps rows found =
    number rows (codes "steps") STEPS 1000 (codes "1000") found (
      omega arith,
      (omega arith, (omega arith, (omega arith, (omega arith, tt)))),
    ) refl (omega arith) (omega arith)

has_usual_search : (rows : List Row) → one_of (codes "depth") rows ≡ Some (codes "3") →
    one_of (codes "tries") rows ≡ Some (codes "10000") → one_of (codes "steps") rows ≡ Some (codes "1000")
    → AreBounds rows usual_search
has_usual_search rows depth tries steps = record {
  depth = number rows (codes "depth") DEPTHS 3 (codes "3") depth (omega arith, (omega arith, tt)) refl
      (omega arith) (omega arith);
  tries = number rows (codes "tries") TRIES 10000 (codes "10000") tries (
    omega arith,
    (omega arith, (omega arith, (omega arith, (omega arith, (omega arith, tt))))),
  ) refl (omega arith) (omega arith);
  steps = usual_steps rows steps;
}

given_bounds : (rows : List Row) → one_of (codes "depth") rows ≡ Some (codes "+0") →
    one_of (codes "tries") rows ≡ Some (codes "007") → one_of (codes "steps") rows ≡ Some (codes "2000")
    → AreBounds rows given
given_bounds rows depth tries steps = record {
  depth = number rows (codes "depth") DEPTHS 0 (codes "+0") depth (omega arith, (omega arith, tt)) refl
      (omega arith) (omega arith);
  tries = number rows (codes "tries") TRIES 7 (codes "007") tries (
    omega arith,
    (omega arith, (omega arith, (omega arith, tt))),
  ) refl (omega arith) (omega arith);
  steps = number rows (codes "steps") STEPS 2000 (codes "2000") steps (
    omega arith,
    (omega arith, (omega arith, (omega arith, (omega arith, tt)))),
  ) refl (omega arith) (omega arith);
}

plain : Asks (refute (codes "a" ∷ [])) (codes "a") (refuting usual_search)
unfolding clap_on_literals
plain = record {
  named = refl;
  taken = refl;
  file_is = refl;
  task_is = has_usual_search
      (matches_of refute_app (refute (codes "a" ∷ []))) refl refl refl;
}

abbrev all_numbers : List Text
all_numbers = codes "--depth" ∷ codes "+0" ∷ codes "--tries=007" ∷ codes "a" ∷ codes "--steps" ∷ codes "2000" ∷ []

numbers : Asks (refute all_numbers) (codes "a") (refuting given)
unfolding clap_on_literals
numbers = record {
  named = refl;
  taken = refl;
  file_is = refl;
  task_is = given_bounds
      (matches_of refute_app (refute all_numbers)) refl refl refl;
}

behind_dashes : Asks (refute (codes "--" ∷ codes "--help" ∷ [])) (codes "--help") (refuting usual_search)
unfolding clap_on_literals
behind_dashes = record {
  named = refl;
  taken = refl;
  file_is = refl;
  task_is = has_usual_search
      (matches_of refute_app (refute (codes "--" ∷ codes "--help" ∷ []))) refl refl refl;
}

proof_bounds : (rows : List Row) → AreBounds rows usual_search →
    one_of (codes "plain") rows ≡ Some (codes "500") → one_of (codes "nodes") rows ≡ Some (codes "2000")
    → AreProofBounds rows usual_bounds
proof_bounds rows bounds plain nodes = record {
  search = bounds;
  plain = number rows (codes "plain") PLAIN 500 (codes "500") plain (
    omega arith,
    (omega arith, (omega arith, (omega arith, tt))),
  ) refl (omega arith) (omega arith);
  nodes = number rows (codes "nodes") NODES 2000 (codes "2000") nodes (
    omega arith,
    (omega arith, (omega arith, (omega arith, (omega arith, tt)))),
  ) refl (omega arith) (omega arith);
}

given_proof_bounds : (rows : List Row) → AreBounds rows usual_search →
    one_of (codes "plain") rows ≡ Some (codes "1000") → one_of (codes "nodes") rows ≡ Some (codes "0")
    → AreProofBounds rows given_proof
given_proof_bounds rows bounds plain nodes = record {
  search = bounds;
  plain = number rows (codes "plain") PLAIN 1000 (codes "1000") plain (
    omega arith,
    (omega arith, (omega arith, (omega arith, (omega arith, tt)))),
  ) refl (omega arith) (omega arith);
  nodes = number rows (codes "nodes") NODES 0 (codes "0") nodes (omega arith, (omega arith, tt)) refl
      (omega arith) (omega arith);
}

abbrev prove_rows : List Text → List Row
prove_rows words = matches_of prove_app (prove words)

proved : Asks (prove (codes "a" ∷ [])) (codes "a") (proving usual_bounds)
unfolding clap_on_literals
proved =
    let rows = prove_rows (codes "a" ∷ []) in
    record {
      named = refl;
      taken = refl;
      file_is = refl;
      task_is = proof_bounds rows
          (has_usual_search rows refl refl refl) refl refl;
    }

proof_numbers : Asks (prove (codes "a" ∷ codes "--nodes=0" ∷ codes "--plain" ∷ codes "1000" ∷ [])) (codes "a")
    (proving given_proof)
unfolding clap_on_literals
proof_numbers =
    let rows = prove_rows (codes "a" ∷ codes "--nodes=0" ∷ codes "--plain" ∷ codes "1000" ∷ []) in
    record {
      named = refl;
      taken = refl;
      file_is = refl;
      task_is = given_proof_bounds rows
          (has_usual_search rows refl refl refl) refl refl;
    }

least_bounds : (rows : List Row) → one_of (codes "depth") rows ≡ Some (codes "0") →
    one_of (codes "tries") rows ≡ Some (codes "1") → one_of (codes "steps") rows ≡ Some (codes "1")
    → one_of (codes "plain") rows ≡ Some (codes "0") → one_of (codes "nodes") rows ≡ Some (codes "0") →
    AreProofBounds rows least_numbers
least_bounds rows depth tries steps plain nodes = record {
  search = record {
    depth = number rows (codes "depth") DEPTHS 0 (codes "0") depth (omega arith, (omega arith, tt)) refl
        (omega arith) (omega arith);
    tries = number rows (codes "tries") TRIES 1 (codes "1") tries (omega arith, (omega arith, tt)) refl
        (omega arith) (omega arith);
    steps = number rows (codes "steps") STEPS 1 (codes "1") steps (omega arith, (omega arith, tt)) refl
        (omega arith) (omega arith);
  };
  plain = number rows (codes "plain") PLAIN 0 (codes "0") plain (omega arith, (omega arith, tt)) refl
      (omega arith) (omega arith);
  nodes = number rows (codes "nodes") NODES 0 (codes "0") nodes (omega arith, (omega arith, tt)) refl
      (omega arith) (omega arith);
}

greatest_bounds : (rows : List Row) → one_of (codes "depth") rows ≡ Some (codes "8") →
    one_of (codes "tries") rows ≡ Some (codes "1000000") → one_of (codes "steps") rows ≡ Some (codes "100000")
    → one_of (codes "plain") rows ≡ Some (codes "1000") → one_of (codes "nodes") rows ≡ Some (codes "10000") →
    AreProofBounds rows greatest_numbers
greatest_bounds rows depth tries steps plain nodes = record {
  search = record {
    depth = number rows (codes "depth") DEPTHS 8 (codes "8") depth (omega arith, (omega arith, tt)) refl
        (omega arith) (omega arith);
    tries = number rows (codes "tries") TRIES 1000000 (codes "1000000") tries (
      omega arith,
      (
        omega arith,
        (
          omega arith,
          (omega arith, (omega arith, (omega arith, (omega arith, (omega arith, tt))))),
        ),
      ),
    ) refl (omega arith)
        (omega arith);
    steps = number rows (codes "steps") STEPS 100000 (codes "100000") steps (
      omega arith,
      (omega arith, (omega arith, (omega arith, (omega arith, (omega arith, (omega arith, tt)))))),
    ) refl
        (omega arith) (omega arith);
  };
  plain = number rows (codes "plain") PLAIN 1000 (codes "1000") plain (
    omega arith,
    (omega arith, (omega arith, (omega arith, (omega arith, tt)))),
  ) refl (omega arith) (omega arith);
  nodes = number rows (codes "nodes") NODES 10000 (codes "10000") nodes (
    omega arith,
    (omega arith, (omega arith, (omega arith, (omega arith, (omega arith, tt))))),
  ) refl (omega arith) (omega arith);
}

least : Asks (prove least_words) (codes "a") (proving least_numbers)
unfolding clap_on_literals
least = record {
  named = refl;
  taken = refl;
  file_is = refl;
  task_is = least_bounds (prove_rows least_words)
      refl refl refl refl refl;
}

greatest : Asks (prove greatest_words) (codes "a") (proving greatest_numbers)
unfolding clap_on_literals
greatest = record {
  named = refl;
  taken = refl;
  file_is = refl;
  task_is = greatest_bounds
      (prove_rows greatest_words) refl refl refl refl refl;
}

one_dash : Asks (eval (codes "-" ∷ codes "x" ∷ [])) (codes "-") (evaluating (codes "x") 1000)
unfolding clap_on_literals
one_dash = record {
  named = refl;
  taken = refl;
  file_is = refl;
  task_is = (
    refl,
    usual_steps (matches_of eval_app (eval (codes "-" ∷ codes "x" ∷ []))) refl,
  );
}

empty : Asks (eval (codes "" ∷ codes "help" ∷ [])) (codes "") (evaluating (codes "help") 1000)
unfolding clap_on_literals
empty = record {
  named = refl;
  taken = refl;
  file_is = refl;
  task_is = (
    refl,
    usual_steps (matches_of eval_app (eval (codes "" ∷ codes "help" ∷ []))) refl,
  );
}

print_is : (rows : List Row) (print : Bool) (text : Text) → first_of (codes "print") rows ≡ Some text →
    print ≡ bytes_eq text (codes "true") → IsTrue print ↔ IsGiven rows (codes "print")
print_is rows print text found same = text_compared (first_of (codes "print") rows) text (codes "true") print
    (sym found) same

printed : Asks (check (codes "--print" ∷ codes "a" ∷ [])) (codes "a") (checking true)
unfolding clap_on_literals
printed = record {
  named = refl;
  taken = refl;
  file_is = refl;
  task_is = print_is
      (matches_of check_app (check (codes "--print" ∷ codes "a" ∷ []))) true (codes "true") refl refl;
}

unprinted : Asks (check (codes "a" ∷ [])) (codes "a") (checking false)
unfolding clap_on_literals
unprinted = record {
  named = refl;
  taken = refl;
  file_is = refl;
  task_is = print_is
      (matches_of check_app (check (codes "a" ∷ []))) false (codes "false") refl refl;
}

replayed : Asks (replay (codes "a" ∷ codes "b" ∷ [])) (codes "a") (replaying (codes "b"))
unfolding clap_on_literals
replayed = record { named = refl; taken = refl; file_is = refl; task_is = refl }

upgraded : Asks (upgrade (codes "a" ∷ [])) (codes "a") upgrading
unfolding clap_on_literals
upgraded = record { named = refl; taken = refl; file_is = refl; task_is = tt }

trimmed : Asks (trim (codes "a" ∷ codes "b" ∷ [])) (codes "a") (trimming (codes "b"))
unfolding clap_on_literals
trimmed = record { named = refl; taken = refl; file_is = refl; task_is = refl }

carried_out : Asks (session (codes "a" ∷ codes "b" ∷ [])) (codes "a") (carrying_out (codes "b"))
unfolding clap_on_literals
carried_out = record { named = refl; taken = refl; file_is = refl; task_is = refl }

loaded : AsksToLoad (load (codes "+0200" ∷ [])) 200
unfolding clap_on_literals
loaded = record {
  named = refl;
  taken = refl;
  goals_are =
      number (matches_of load_app (load (codes "+0200" ∷ []))) (codes "N") GOALS 200 (codes "+0200") refl
      (omega arith, (omega arith, (omega arith, (omega arith, (omega arith, tt))))) refl (omega arith) (omega arith);
}

one_goal : AsksToLoad (load (codes "1" ∷ [])) 1
unfolding clap_on_literals
one_goal = record {
  named = refl;
  taken = refl;
  goals_are =
      number (matches_of load_app (load (codes "1" ∷ []))) (codes "N") GOALS 1 (codes "1") refl
      (omega arith, (omega arith, tt)) refl (omega arith) (omega arith);
}

pub asking : Asking
asking = record {
  plain = plain;
  numbers = numbers;
  behind_dashes = behind_dashes;
  proved = proved;
  proof_numbers = proof_numbers;
  least = least;
  greatest = greatest;
  one_dash = one_dash;
  empty = empty;
  printed = printed;
  unprinted = unprinted;
  replayed = replayed;
  upgraded = upgraded;
  trimmed = trimmed;
  carried_out = carried_out;
  loaded = loaded;
  one_goal = one_goal;
}
