-- The text of `load` is accepted.
use Rattle.std.proofs.Common.{◌≡◌, ℕ, ◌<◌, ◌≤◌, ◌^◌, List, Result, Ok, Err, refl, sym, subst, arith}
use Rattle.std.specs.Prelude.{IfOk}
use Rattle.spec_grammar.proofs.KeepsLimits.{keeps_limits}
use Rattle.spec_printing.specs.Printed.{printed}
use Rattle.sort_check.specs.StandsFor.{StandsFor}
use Rattle.sort_check.proofs.Elaborates.{goal_names_distinct}
use Rattle.sort_check.proofs.WellSortedSpecs.{stands_well_sorted}
use Rattle.load_text.specs.LoadRaw.{load_raw}
use Rattle.load_text.specs.LoadSpec.{load_sig, load_spec}
use Rattle.load_text.specs.Accepted.{IsAcceptedAs}
use Rattle.load_text.proofs.Admitted.{load_admitted}
use Rattle.load_text.proofs.Tokens.{load_reads}
use Rattle.spec_meaning.proofs.SameSpecs.{same_stands}
use Rattle.load_text.proofs.LoadDeclarations.{load_declared, load_signature, load_declarations, load_rules_stand}
use Rattle.load_text.proofs.LoadDeclarations.{load_rules_clean}
use Rattle.load_text.proofs.LoadGoals.{load_goals_stand}
use Rattle.load_text.proofs.CleanGoals.{load_goals_clean}

load_stands : (n : ℕ) → n < 2 ^ 64 → StandsFor (load_raw n) (load_spec n)
load_stands n few = record {
  clean = (load_declarations n, (((tt, tt), tt), (load_rules_clean, load_goals_clean n few)));
  numbered = record {
    signature = load_signature n;
    declared = load_declared;
    order = (refl, refl, refl);
    rules = load_rules_stand;
    goals = load_goals_stand 0 n;
    names = goal_names_distinct load_sig (load_raw n).goals (load_spec n).goals
        (load_goals_clean n few) (load_goals_stand 0 n);
  };
}

pub load_accepted : (n : ℕ) → n ≤ 200 → IsAcceptedAs (printed (load_raw n)) (load_spec n)
load_accepted n few =
    let read = load_reads n few in
    let stands : StandsFor read.0 (load_spec n) =
    same_stands read.0 (load_raw n) read.2 (load_spec n) (load_stands n (omega arith)) in
    record {
      raw = read.0;
      derives = read.1;
      stands = stands;
      sorted = stands_well_sorted read.0 (load_spec n)
          (keeps_limits (printed (load_raw n)) read.0 read.1) stands;
      admitted = load_admitted n;
    }

pub accepted_text : {X E : Type 0} (view : X → List ℕ) (n : ℕ) (result : Result X E) → n ≤ 200 →
    IfOk result (λ r. view r ≡ printed (load_raw n)) →
    IfOk result (λ r. IsAcceptedAs (view r) (load_spec n))
accepted_text view n (Ok r) few e =
    subst (λ (text : List ℕ). IsAcceptedAs text (load_spec n)) (sym e) (load_accepted n few)
accepted_text view n (Err fault) few e = tt
