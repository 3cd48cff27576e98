-- A run begins with the code of a term, and what it comes to is what the term gives.
use Rattle.std.proofs.Common.{◌≡◌, ℕ, zero, suc, ◌<◌, List, [], ◌∷◌, Some, None, refl, ap, sym, ◌∙◌, subst, arith, map}
use Rattle.std.proofs.Common.{length}
use Rattle.std.specs.Prelude.{slice_get}
use Rattle.std.proofs.lemmas.List.{length-map}
use Rattle.std.proofs.lemmas.Option.{slice_get_within}
use Rattle.term_core.proofs.Items.{all_at}
use Rattle.term_core.specs.Tree.{Tree, var, instance, trees_of}
use Rattle.term_core.specs.declared.ids.SortId.{SortId}
use Rattle.spec_core.specs.Sorts.{IsBuilt}
use Rattle.spec_core.specs.WellSorted.{IsWellSorted}
use Rattle.value_bank.specs.Cells.{Cell, AreTerms}
use Rattle.value_bank.specs.declared.bank.ValueId.{ValueId}
use Rattle.value_bank.proofs.Placed.{term_within}
use Rattle.rule_code.specs.Compiled.{IsBody, Holds}
use Rattle.rule_code.specs.Programs.{Program, first_numbers}
use Rattle.rule_code.proofs.Grown.{first_numbers_count, first_number_at}
use Rattle.rule_code.proofs.Matches.{some_slot}
use Rattle.rule_code.proofs.Testing.{terms_count}
use Rattle.bank_machine.specs.declared.answers.BankEval.{BankEval}
use Rattle.bank_machine.specs.declared.answers.BankEval.TheVariants.{Value, Spent}
use Rattle.bank_machine.specs.Ranged.{AreThere}
use Rattle.bank_machine.specs.Runs.{StandAt, CanRun, IsBankEval, Ran}
use Rattle.bank_machine.specs.Stacks.{stack}
use Rattle.bank_machine.specs.States.{State, state}
use Rattle.bank_machine.specs.Turns.{Works}
use Rattle.bank_machine.proofs.Entering.{all_of}
use Rattle.bank_machine.proofs.Fitting.{start_sound}
use Rattle.bank_machine.proofs.Ranging.{body_ranged}
use Rattle.bank_machine.proofs.Running.{run_gives, run_whole}

-- the place of a value is within
pub id_within : (cells : List Cell) (ids : List ValueId) (values : List Tree) → StandAt cells ids values →
    (i : ℕ) (id : ValueId) → slice_get ids i ≡ Some id → id.0 < length cells
id_within cells [] values h i id e = absurd (let q : None ≡ Some id = e in cc)
id_within cells (x ∷ ids) [] h i id e = absurd h
id_within cells (x ∷ ids) (v ∷ values) h zero id e =
    let q : Some x ≡ Some id = e in
    let is : x ≡ id = cc in
    subst (λ (z : ValueId). z.0 < length cells) is (term_within cells x.0 v h.0)
id_within cells (x ∷ ids) (v ∷ values) h (suc i) id e = id_within cells ids values h.1 i id e

module _ (p : Program) (fine : IsWellSorted p.spec) (cells : List Cell) (side : ℕ) (ids : List ValueId)
    (term : Tree) (values : List Tree) (sort : SortId) (c : CanRun p cells side ids term values sort) where
  as_many : length values ≡ length ids
  as_many = terms_count cells (map (λ (id : ValueId). id.0) ids) values c.stand ∙ length-map ids _

  number_within : (n s : ℕ) → slice_get (first_numbers (length ids)) n ≡ Some s → s < length values
  number_within n s at = omega (
    arith,
    first_number_at (length ids) n s at,
    slice_get_within (first_numbers (length ids)) n s at,
    first_numbers_count (length ids),
    as_many,
  )

  holds : Holds p.spec.sig (first_numbers (length ids)) values values
  holds n s at =
      let e : s ≡ n = first_number_at (length ids) n s at in
      let lt = number_within n s at in (
        lt,
        ap (λ z. instance values (var z)) (sym e),
        all_at (λ (v : Tree). IsBuilt p.spec.sig v) values c.built s (instance values (var s))
            (some_slot values s lt),
      )

  body : IsBody p.spec.sig (first_numbers (length ids)) term (length values) c.code.0 c.code.1
  body = subst (λ n. IsBody p.spec.sig (first_numbers (length ids)) term n c.code.0 c.code.1) (sym as_many) c.code.3

  abbrev pub start : State
  start = state values c.code.0 c.code.1 []

  pub starts : (places : List ℕ) → places ≡ map (λ (id : ValueId). id.0) ids →
      Works p cells (stack places 0 side []) (state values c.code.0 c.code.1 []) sort
  starts places e =
      let there : AreThere (length values) (first_numbers (length ids)) = all_of (λ (s : ℕ). s < length values)
      (first_numbers (length ids)) number_within in
      record {
        at = record {
          within = omega arith;
          slots = subst (λ ps. AreTerms cells ps (trees_of values)) (sym e)
              c.stand;
          code = c.code.2;
          waits = refl;
        };
        sound = start_sound p.spec (first_numbers (length ids)) values values term c.code.0 c.code.1 sort fine
            body holds c.sorted;
        ranged = record {
          top = body_ranged p.spec.rules p.spec.sig (first_numbers (length ids)) term
              (length values) c.code.0 c.code.1 there body;
          waiting = tt;
        };
      }

  pub evaluated : (new : List Cell) (budget : ℕ) (found : BankEval) →
      Ran p.spec new (state values c.code.0 c.code.1 []) budget found →
      IsBankEval p.spec new (instance values term) budget found
  evaluated new budget (Value id n) (env, i, runs, at, le) = (
    instance env (var i),
    at,
    run_gives p.spec (first_numbers (length ids)) values values env term c.code.0 c.code.1 i n fine body holds
        runs,
    le,
  )
  evaluated new budget Spent (now, cost, left, runs, paid, stuck) = λ apart whole v n g le.
      let r = run_whole p.spec (first_numbers (length ids)) values values term c.code.0 c.code.1 now cost v n
      fine apart whole body holds runs g in
      stuck apart whole v r.0 r.1 (omega (arith, le, paid, r.2))
