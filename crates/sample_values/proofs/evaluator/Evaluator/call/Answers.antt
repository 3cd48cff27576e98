use Rattle.std.proofs.Common.{◌≡◌, ap, arith, map, sym, ◌∙◌, subst}
use Rattle.spec_core.specs.WellSorted.{IsWellSorted}
use Rattle.value_bank.specs.declared.bank.ValueId.{ValueId}
use Rattle.rule_code.proofs.Ranges.{symbol_in_range}
use Rattle.bank_machine.specs.KeptCalls.{AreRight}
use Rattle.sample_values.specs.Evaluators.{Evaluated, evaluated, IsGiven, CanApply}
use Rattle.sample_values.proofs.Calling.{call_runs, call_given, given_within}
use Rattle.sample_values.proofs.evaluator.Evaluator.call.Goals as goal

pub index-side-requires : goal.index-side-requires
index-side-requires c =
    let can = subst (λ (e : Evaluated). CanApply e c.args.sym.0 c.args.places.now) (sym c.self.view_is) c.requires in
    let within = symbol_in_range c.self.inside.spec.now.sig.table c.args.sym.0 can.info can.declared in
    omega (arith, within, c.self.invariant.count)

pub run-requires-clause-fine : goal.run-requires-clause-fine
run-requires-clause-fine c = subst (λ s. IsWellSorted s) (sym c.self.invariant.same) c.self.invariant.fine

pub run-requires-clause-kept : goal.run-requires-clause-kept
run-requires-clause-kept c = subst (λ s. AreRight s c.self.inside.bank c.self.inside.kept) (sym c.self.invariant.same)
    c.self.invariant.of_kept

pub run-requires-clause-sorted : goal.run-requires-clause-sorted
run-requires-clause-sorted c =
    let now = evaluated c.self.inside.spec.now c.self.inside.bank in
    let can = subst (λ (e : Evaluated). CanApply e c.args.sym.0 c.args.places.now) (sym c.self.view_is) c.requires in
    let ids = c.deref.result.now in
    let are : map (λ (id : ValueId). id.0) ids ≡ c.args.places.now =
    ap (λ xs. map (λ (id : ValueId). id.0) xs) c.deref.ensures.value ∙ c.in_ok-ids.ensures in
    call_runs now c.self.inside.machine c.self.inside.sides.items c.self.inside.kept c.self.invariant c.args.sym.0
    c.index-side.result.now c.index-side.ensures c.args.places.now ids are can

pub number-place-requires : goal.number-place-requires
number-place-requires c =
    let now = evaluated c.self.inside.spec.now c.self.inside.bank in
    let can = subst (λ (e : Evaluated). CanApply e c.args.sym.0 c.args.places.now) (sym c.self.view_is) c.requires in
    let ids = c.deref.result.now in
    let are : map (λ (id : ValueId). id.0) ids ≡ c.args.places.now =
    ap (λ xs. map (λ (id : ValueId). id.0) xs) c.deref.ensures.value ∙ c.in_ok-ids.ensures in
    let given = call_given now c.self.inside.machine c.self.inside.sides.items c.self.inside.kept c.self.invariant
    c.args.sym.0 c.index-side.result.now c.index-side.ensures c.args.places.now ids are can c.run.new.bank 20000
    c.in-Value.steps c.in-Value.id c.in_ok-id.field-0 c.in_ok-id.ensures.found c.in-Value.is in
    given_within now c.self.inside.machine c.self.inside.sides.items c.self.inside.kept c.self.invariant c.args.sym.0
    c.index-side.result.now c.index-side.ensures c.args.places.now ids are can
    c.run.new.bank c.in-Value.id.0 given

pub returns-in-Value-clause-given : goal.returns-in-Value-clause-given
returns-in-Value-clause-given c =
    let now = evaluated c.self.inside.spec.now c.self.inside.bank in
    let can = subst (λ (e : Evaluated). CanApply e c.args.sym.0 c.args.places.now) (sym c.self.view_is) c.requires in
    let ids = c.deref.result.now in
    let are : map (λ (id : ValueId). id.0) ids ≡ c.args.places.now =
    ap (λ xs. map (λ (id : ValueId). id.0) xs) c.deref.ensures.value ∙ c.in_ok-ids.ensures in
    let given = call_given now c.self.inside.machine c.self.inside.sides.items c.self.inside.kept c.self.invariant
    c.args.sym.0 c.index-side.result.now c.index-side.ensures c.args.places.now ids are can c.run.new.bank 20000
    c.in-Value.steps c.in-Value.id c.in_ok-id.field-0 c.in_ok-id.ensures.found c.in-Value.is in
    subst (λ p. IsGiven (evaluated c.self.inside.spec.now c.run.new.bank) c.args.sym.0 p) (sym c.number-place.ensures)
    given
