use Rattle.std.proofs.Common.{◌≤◌, [], ap, sym, ◌∙◌, subst, arith, map}
use Rattle.std.proofs.lemmas.List.{take_all}
use Rattle.std.proofs.lemmas.Option.{slice_get-get_or}
use Rattle.term_core.proofs.Items.{if_ok_map}
use Rattle.value_bank.specs.declared.bank.ValueId.{ValueId}
use Rattle.bank_machine.specs.Fuel.{fuel, most_added}
use Rattle.bank_machine.specs.Owed.{Pays}
use Rattle.bank_machine.specs.Stacks.{shown}
use Rattle.bank_machine.specs.States.{state}
use Rattle.bank_machine.specs.Turns.{IsUnderWay, Works}
use Rattle.bank_machine.proofs.Fuelled.{first_fuel}
use Rattle.bank_machine.proofs.Starting.{id_within, starts, evaluated}
use Rattle.bank_machine.proofs.machine.Machine.run.Goals as goal

pub number-requires : goal.number-requires
number-requires c =
    let q = c.requires.sorted in
    let zero_id : ValueId = record { 0 = 0 } in
    id_within c.args.bank.now c.args.values.now q.1 q.3.stand c.loop-value.value-index _
    (slice_get-get_or c.args.values.now c.loop-value.value-index zero_id c.loop-value-test.true)

pub run_on-requires-clause-works : goal.run_on-requires-clause-works
run_on-requires-clause-works c =
    let q = c.requires.sorted in
    let places = c.loop-value.invariant
    ∙ ap (λ vs. map (λ (id : ValueId). id.0) vs)
    (take_all c.loop-value.value-index c.args.values.now (omega (arith, c.loop-value-test.false))) in
    subst (λ z. IsUnderWay c.args.self.now c.args.bank.now c.args.budget z) (sym c.new.ensures) (
      state q.1 q.3.code.0 q.3.code.1 [],
      q.2,
      starts c.args.self.now c.requires.fine c.args.bank.now c.args.side c.args.values.now q.0 q.1 q.2 q.3
          c.loop-value.slots.items places,
      tt,
    )

pub returns-clause-found : goal.returns-clause-found
returns-clause-found c =
    let places = c.loop-value.invariant
    ∙ ap (λ vs. map (λ (id : ValueId). id.0) vs)
    (take_all c.loop-value.value-index c.args.values.now (omega (arith, c.loop-value-test.false))) in
    if_ok_map c.run_on.result _ _
    (λ found h term terms sort can.
    let s = state terms can.code.0 can.code.1 [] in
    let works : Works c.args.self.now c.args.bank.now (shown c.new.result)
    (state terms can.code.0 can.code.1 []) sort = subst
    (λ z. Works c.args.self.now c.args.bank.now z (state terms can.code.0 can.code.1 []) sort)
    (sym c.new.ensures) (starts c.args.self.now c.requires.fine c.args.bank.now c.args.side
    c.args.values.now term terms sort can c.loop-value.slots.items places) in
    let pays : Pays c.args.self.now c.args.budget (shown c.new.result)
    (state terms can.code.0 can.code.1 []) = subst
    (λ z. Pays c.args.self.now c.args.budget z (state terms can.code.0 can.code.1 [])) (sym c.new.ensures) tt in
    evaluated c.args.self.now c.requires.fine c.args.bank.now c.args.side c.args.values.now term terms sort can
    c.run_on.new.bank c.args.budget found (h (state terms can.code.0 can.code.1 []) sort works pays))
    c.run_on.ensures.ran

pub returns-clause-few : goal.returns-clause-few
returns-clause-few c =
    let q = c.requires.sorted in
    let first : fuel c.args.self.now (shown c.new.result) c.args.budget ≤ most_added c.args.self.now
    c.args.budget = subst (λ z. fuel c.args.self.now z c.args.budget ≤ most_added c.args.self.now
    c.args.budget) (sym c.new.ensures) (first_fuel c.args.self.now _ c.loop-value.slots.items q.0 _
    c.args.side c.args.budget q.3.code.0 q.3.code.1 q.3.code.2 q.3.code.3) in
    if_ok_map c.run_on.result _ _ (λ found h. omega (arith, h, first)) c.run_on.ensures.few
