-- A run of the machine, move by move.
use Rattle.std.proofs.Common.{◌≡◌, ℕ, suc, ◌+◌, ◌-◌, ◌<◌, ◌≤◌, List, [], refl, sym, subst, arith, length}
use Rattle.term_core.specs.Tree.{var, instance}
use Rattle.term_core.specs.declared.ids.SortId.{SortId}
use Rattle.spec_core.specs.WellSorted.{IsWellSorted}
use Rattle.value_bank.specs.Cells.{Cell, IsTerm}
use Rattle.value_bank.specs.declared.bank.ValueId.{ValueId}
use Rattle.rule_code.specs.Code.{slot}
use Rattle.rule_code.specs.Programs.{Program}
use Rattle.bank_machine.specs.declared.answers.BankEval.TheVariants.{Value, Spent}
use Rattle.bank_machine.specs.declared.turns.Turn.TheVariants.{Moved, Done, Stuck}
use Rattle.bank_machine.specs.Fuel.{fuel}
use Rattle.bank_machine.specs.Owed.{Pays}
use Rattle.bank_machine.specs.Runs.{Ran}
use Rattle.bank_machine.specs.Stacks.{Stack, IsAt}
use Rattle.bank_machine.specs.States.{State, state, Moves, Runs, stays, then}
use Rattle.bank_machine.specs.Turns.{Works, Turns}
use Rattle.bank_machine.proofs.Fitting.{moves_sound}
use Rattle.bank_machine.proofs.Fuelled.{move_falls, some_fuel}
use Rattle.bank_machine.proofs.Ranging.{move_ranged}

-- how far a run has come from a state that the stack stood for
pub record HasRun (p : Program) (cells : List Cell) (stack : Stack) (from : State) (sort : SortId)
    (budget left : ℕ) : Type 0 where
  pub now : State
  pub cost : ℕ
  pub ran : Runs p.spec from cost now
  pub works : Works p cells stack now sort
  pub pays : Pays p left stack now
  pub paid : cost + left ≡ budget

abbrev pub HaveRun : Program → List Cell → List Cell → Stack → Stack → ℕ → ℕ → Type 0
HaveRun p old cells start stack budget left = (s : State) (sort : SortId) → Works p old start s sort →
    Pays p budget start s → HasRun p cells stack s sort budget left

-- the cells that were added are paid by the fuel that was used
abbrev pub HasAddedFew : Program → List Cell → List Cell → Stack → Stack → ℕ → ℕ → Type 0
HasAddedFew p old cells start stack budget left = length cells + fuel p stack left ≤ length old + fuel p start budget

pub few_yet : (old mid new start before after : ℕ) → mid + before ≤ old + start → new ≤ suc mid →
    after < before → new + after ≤ old + start
few_yet old mid new start before after h one less = omega (arith, h, one, less)

few_at_end : (old mid new start now : ℕ) → mid + now ≤ old + start → new ≤ suc mid → 0 < now → new ≤ old + start
few_at_end old mid new start now h one some = omega (arith, h, one, some)

pub run_begins : (p : Program) (cells : List Cell) (stack : Stack) (budget left : ℕ) → left ≡ budget →
    HaveRun p cells cells stack stack budget left
run_begins p cells stack budget left e s sort w pays = record {
  now = s;
  cost = 0;
  ran = stays;
  works = w;
  pays = subst (λ n. Pays p n stack s) (sym e) pays;
  paid = omega (arith, e);
}

module _ (p : Program) (fine : IsWellSorted p.spec) (cells new : List Cell) (stack after : Stack) (from : State)
    (sort : SortId) (budget left : ℕ) (h : HasRun p cells stack from sort budget left) where
  still_works : {next : State} {c : ℕ} → Moves p.spec h.now c next → IsAt p.code new after next →
      Works p new after next sort
  still_works {next} {c} m at = record {
    at = at;
    sound = moves_sound p.spec h.now next c sort fine m
        h.works.sound;
    ranged = move_ranged p.spec m h.works.ranged;
  }

  pub run_moves : (c : ℕ) → Turns p new left after h.now (Moved c) → HasRun p new after from sort budget (left - c)
  run_moves c t = record {
    now = t.1.0;
    cost = h.cost + c;
    ran = then h.ran t.1.1 refl;
    works = still_works
        t.1.1 t.1.2;
    pays = t.1.3;
    paid = omega (arith, h.paid, t.0);
  }

  pub moves_fall : (c : ℕ) → Turns p new left after h.now (Moved c) → fuel p after (left - c) < fuel p stack left
  moves_fall c t = move_falls p cells new stack after h.now t.1.0 left c t.0 h.works.at t.1.2 t.1.1

  pub few_added : (old : List Cell) (start : Stack) → HasAddedFew p old cells start stack budget left →
      length new ≤ suc (length cells) → length new ≤ length old + fuel p start budget
  few_added old start few one = few_at_end (length old) (length cells) (length new) (fuel p start budget)
      (fuel p stack left) few one (some_fuel p cells stack h.now left h.works.at)

  pub run_ends : (id : ValueId) (steps place : ℕ) → id.0 ≡ place → steps ≡ budget - left →
      Turns p new left after h.now (Done place) → Ran p.spec new from budget (Value id steps)
  run_ends id steps place e k (env, i, is, term) =
      let cost : h.cost ≡ steps = omega (arith, k, h.paid) in (
        env,
        i,
        subst (λ n. Runs p.spec from n (state env [] (slot i) [])) cost
            (subst (λ z. Runs p.spec from h.cost z) is h.ran),
        subst (λ z. IsTerm new z (instance env (var i))) (sym e) term,
        omega (arith, k),
      )

  pub run_stuck : Turns p new left after h.now Stuck → Ran p.spec new from budget Spent
  run_stuck t = (h.now, h.cost, left, h.ran, h.paid, t)
