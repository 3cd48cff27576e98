use Rattle.std.proofs.Common.{Some, None, refl, ◌∙◌, subst, arith}
use Rattle.bank_machine.specs.Calls.{IsFound}
use Rattle.bank_machine.specs.Stacks.{shown}
use Rattle.bank_machine.proofs.StackMoves.{none_left, no_rule, calls_last, last_slots, last_is_at, last_terms}
use Rattle.bank_machine.proofs.StackMoves.{called_last}
use Rattle.bank_machine.proofs.machine.Machine.call_last.Goals as goal

pub returns-then-left-eq0 : goal.returns-then-left-eq0
returns-then-left-eq0 c s sort w pays =
    let p = c.args.self.now in
    let before = shown c.args.stack.now in
    none_left p c.args.bank.now before s sort w c.requires.fine c.args.sym c.args.slots.now
    (calls_last p c.args.bank.now before s sort w c.requires.fine c.args.sym c.args.slots.now
    c.requires.there) c.args.left c.if-left-eq0.true before c.args.bank.now

pub gather-requires : goal.gather-requires
gather-requires c =
    let q = c.requires.works in
    last_slots c.args.self.now c.args.bank.now (shown c.args.stack.now) q.0 q.1 q.2 c.requires.fine c.args.sym
    c.args.slots.now c.requires.there

pub find-requires-clause-call : goal.find-requires-clause-call
find-requires-clause-call c =
    let q = c.requires.works in
    last_is_at c.args.self.now c.args.bank.now (shown c.args.stack.now) q.0 q.1 q.2 c.requires.fine c.args.sym
    c.args.slots.now c.requires.there c.deref.result.now (c.deref.ensures.value ∙ c.in_ok-gather.ensures)
    (shown c.call_last.new.self) c.in_ok-call_last.ensures

pub returns-in-None : goal.returns-in-None
returns-in-None c s sort w pays =
    let p = c.args.self.now in
    let cells = c.args.bank.now in
    let before = shown c.args.stack.now in
    let mid = shown c.call_last.new.self in
    let found : IsFound p cells c.args.sym mid.base mid.places c.find.new.places.items None = subst
    (λ o. IsFound p cells c.args.sym mid.base mid.places c.find.new.places.items o) c.in-None.is
    c.in_ok-find.ensures in
    no_rule p cells before s sort w c.requires.fine c.args.sym c.args.slots.now
    (calls_last p cells before s sort w c.requires.fine c.args.sym c.args.slots.now c.requires.there)
    mid.base mid.places c.find.new.places.items
    (last_terms p cells before s sort w c.requires.fine c.args.sym c.args.slots.now c.requires.there
    c.deref.result.now (c.deref.ensures.value ∙ c.in_ok-gather.ensures) mid c.in_ok-call_last.ensures) found
    c.args.left before cells

pub returns-in-Some : goal.returns-in-Some
returns-in-Some c s sort w pays =
    let p = c.args.self.now in
    let cells = c.args.bank.now in
    let before = shown c.args.stack.now in
    let mid = shown c.call_last.new.self in
    let found : IsFound p cells c.args.sym mid.base mid.places c.find.new.places.items
    (Some c.in-Some.next) = subst
    (λ o. IsFound p cells c.args.sym mid.base mid.places c.find.new.places.items o) c.in-Some.is
    c.in_ok-find.ensures in
    called_last p cells before s sort w c.requires.fine c.args.sym c.args.slots.now c.requires.there
    c.deref.result.now (c.deref.ensures.value ∙ c.in_ok-gather.ensures) mid c.in_ok-call_last.ensures
    c.find.new.places.items c.in-Some.next found c.args.left (omega (arith, c.if-left-eq0.false)) _ refl pays
