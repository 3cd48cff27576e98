use Rattle.std.proofs.Common.{◌-◌, refl, subst, arith, length}
use Rattle.value_bank.specs.declared.bank.ValueId.{ValueId}
use Rattle.value_bank.proofs.Placed.{adds_nothing, adds_both}
use Rattle.bank_machine.specs.Stacks.{shown}
use Rattle.bank_machine.specs.Turns.{IsTurn}
use Rattle.bank_machine.proofs.RunsOn.{run_begins, run_moves, moves_fall, few_yet, few_added, run_ends, run_stuck}
use Rattle.bank_machine.proofs.machine.Machine.run_on.Goals as goal

pub moves-init : goal.moves-init
moves-init c = record {
  runs = run_begins c.args.self.now c.args.bank.now (shown c.args.stack) c.args.budget
      c.args.budget refl;
  adds = adds_nothing c.args.bank.now;
  kept = c.requires.kept;
  few = omega arith;
}

pub turn-requires-clause-works : goal.turn-requires-clause-works
turn-requires-clause-works c =
    let q = c.requires.works in
    let h = c.moves.invariant.runs q.0 q.1 q.2 q.3 in
    (h.now, q.1, h.works, h.pays)

pub moves-smaller : goal.moves-smaller
moves-smaller c =
    let q = c.requires.works in
    let h = c.moves.invariant.runs q.0 q.1 q.2 q.3 in
    let t = subst (λ t. IsTurn c.args.self.now c.moves.bank c.turn.new.bank c.moves.left (shown c.moves.stack)
    (shown c.turn.new.stack) t) c.in-Moved.is c.in_ok-cost.ensures.turn h.now q.1 h.works h.pays in
    moves_fall c.args.self.now c.requires.fine c.moves.bank c.turn.new.bank (shown c.moves.stack)
    (shown c.turn.new.stack) q.0 q.1 c.args.budget c.moves.left h c.in-Moved.cost t

pub overflow_sub-left : goal.overflow_sub-left
overflow_sub-left c =
    let q = c.requires.works in
    let h = c.moves.invariant.runs q.0 q.1 q.2 q.3 in
    let t = subst (λ t. IsTurn c.args.self.now c.moves.bank c.turn.new.bank c.moves.left (shown c.moves.stack)
    (shown c.turn.new.stack) t) c.in-Moved.is c.in_ok-cost.ensures.turn h.now q.1 h.works h.pays in
    omega (arith, t.0)

pub moves-preserved : goal.moves-preserved
moves-preserved c =
    let t = subst (λ t. IsTurn c.args.self.now c.moves.bank c.turn.new.bank c.moves.left (shown c.moves.stack)
    (shown c.turn.new.stack) t) c.in-Moved.is c.in_ok-cost.ensures.turn in
    record {
      runs = λ s sort w pays.
          let h = c.moves.invariant.runs s sort w pays in
          run_moves c.args.self.now c.requires.fine c.moves.bank c.turn.new.bank (shown c.moves.stack)
          (shown c.turn.new.stack) s sort c.args.budget c.moves.left h c.in-Moved.cost
          (t h.now sort h.works h.pays);
      adds = adds_both c.args.bank.now c.moves.bank c.turn.new.bank c.moves.invariant.adds c.in_ok-cost.ensures.adds;
      kept = c.in_ok-cost.ensures.kept;
      few =
          let q = c.requires.works in
          let h = c.moves.invariant.runs q.0 q.1 q.2 q.3 in
          let fall = moves_fall c.args.self.now c.requires.fine c.moves.bank c.turn.new.bank
          (shown c.moves.stack) (shown c.turn.new.stack) q.0 q.1 c.args.budget c.moves.left h
          c.in-Moved.cost (t h.now q.1 h.works h.pays) in
          few_yet (length c.args.bank.now) (length c.moves.bank) (length c.turn.new.bank) _ _ _
          c.moves.invariant.few c.in_ok-cost.ensures.few fall;
    }

pub overflow_sub-result : goal.overflow_sub-result
overflow_sub-result c =
    let q = c.requires.works in
    let h = c.moves.invariant.runs q.0 q.1 q.2 q.3 in
    omega (arith, h.paid)

pub returns-in-Done-clause-ran : goal.returns-in-Done-clause-ran
returns-in-Done-clause-ran c s sort w pays =
    let h = c.moves.invariant.runs s sort w pays in
    let t = subst (λ t. IsTurn c.args.self.now c.moves.bank c.turn.new.bank c.moves.left (shown c.moves.stack)
    (shown c.turn.new.stack) t) c.in-Done.is c.in_ok-cost.ensures.turn h.now sort h.works h.pays in
    let id : ValueId = record { 0 = c.in-Done.place } in
    run_ends c.args.self.now c.requires.fine c.moves.bank c.turn.new.bank (shown c.moves.stack)
    (shown c.turn.new.stack) s sort c.args.budget c.moves.left h id (c.args.budget - c.moves.left)
    c.in-Done.place refl refl t

pub returns-in-Stuck-clause-ran : goal.returns-in-Stuck-clause-ran
returns-in-Stuck-clause-ran c s sort w pays =
    let h = c.moves.invariant.runs s sort w pays in
    let t = subst (λ t. IsTurn c.args.self.now c.moves.bank c.turn.new.bank c.moves.left (shown c.moves.stack)
    (shown c.turn.new.stack) t) c.in-Stuck.is c.in_ok-cost.ensures.turn h.now sort h.works h.pays in
    run_stuck c.args.self.now c.requires.fine c.moves.bank c.turn.new.bank (shown c.moves.stack)
    (shown c.turn.new.stack) s sort c.args.budget c.moves.left h t

pub returns-in-Done-clause-adds : goal.returns-in-Done-clause-adds
returns-in-Done-clause-adds c = adds_both c.args.bank.now c.moves.bank c.turn.new.bank c.moves.invariant.adds
    c.in_ok-cost.ensures.adds

pub returns-in-Stuck-clause-adds : goal.returns-in-Stuck-clause-adds
returns-in-Stuck-clause-adds c = adds_both c.args.bank.now c.moves.bank c.turn.new.bank c.moves.invariant.adds
    c.in_ok-cost.ensures.adds

pub returns-in-Done-clause-few : goal.returns-in-Done-clause-few
returns-in-Done-clause-few c =
    let q = c.requires.works in
    let h = c.moves.invariant.runs q.0 q.1 q.2 q.3 in
    few_added c.args.self.now c.requires.fine c.moves.bank c.turn.new.bank (shown c.moves.stack)
    (shown c.turn.new.stack) q.0 q.1 c.args.budget c.moves.left h c.args.bank.now (shown c.args.stack)
    c.moves.invariant.few c.in_ok-cost.ensures.few

pub returns-in-Stuck-clause-few : goal.returns-in-Stuck-clause-few
returns-in-Stuck-clause-few c =
    let q = c.requires.works in
    let h = c.moves.invariant.runs q.0 q.1 q.2 q.3 in
    few_added c.args.self.now c.requires.fine c.moves.bank c.turn.new.bank (shown c.moves.stack)
    (shown c.turn.new.stack) q.0 q.1 c.args.budget c.moves.left h c.args.bank.now (shown c.args.stack)
    c.moves.invariant.few c.in_ok-cost.ensures.few
