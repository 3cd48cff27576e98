use Rattle.std.proofs.Common.{Some, None, refl, subst}
use Rattle.bank_machine.specs.Calls.{IsFound}
use Rattle.bank_machine.specs.Stacks.{shown}
use Rattle.bank_machine.proofs.StackMoves.{no_rule, calls_step, call_is_at, call_terms, called}
use Rattle.bank_machine.proofs.machine.Machine.enter.Goals as goal

pub find-requires-clause-call : goal.find-requires-clause-call
find-requires-clause-call c =
    let q = c.requires.works in
    call_is_at c.args.self.now c.args.bank.now (shown c.args.stack.now) q.0 q.1 q.2 c.requires.fine c.args.sym
    c.requires.calls.0 c.requires.calls.1 c.args.args.now c.requires.calls.2 (shown c.call.new.self)
    c.args.left c.in_ok-call.ensures

pub returns-in-None : goal.returns-in-None
returns-in-None c s sort w pays =
    let p = c.args.self.now in
    let cells = c.args.bank.now in
    let before = shown c.args.stack.now in
    let mid = shown c.call.new.self in
    let found : IsFound p cells c.args.sym mid.base mid.places c.find.new.places.items None = subst
    (λ o. IsFound p cells c.args.sym mid.base mid.places c.find.new.places.items o) c.in-None.is
    c.in_ok-find.ensures in
    no_rule p cells before s sort w c.requires.fine c.args.sym c.requires.calls.0
    (calls_step p cells before s sort w c.requires.fine c.args.sym c.requires.calls.0 c.requires.calls.1)
    mid.base mid.places c.find.new.places.items
    (call_terms p cells before s sort w c.requires.fine c.args.sym c.requires.calls.0 c.requires.calls.1
    c.args.args.now c.requires.calls.2 mid c.args.left c.in_ok-call.ensures) found c.args.left before cells

pub returns-in-Some : goal.returns-in-Some
returns-in-Some c s sort w pays =
    let p = c.args.self.now in
    let cells = c.args.bank.now in
    let before = shown c.args.stack.now in
    let mid = shown c.call.new.self in
    let found : IsFound p cells c.args.sym mid.base mid.places c.find.new.places.items
    (Some c.in-Some.next) = subst
    (λ o. IsFound p cells c.args.sym mid.base mid.places c.find.new.places.items o) c.in-Some.is
    c.in_ok-find.ensures in
    called p cells before s sort w c.requires.fine c.args.sym c.requires.calls.0 c.requires.calls.1
    c.args.args.now c.requires.calls.2 mid c.args.left c.in_ok-call.ensures c.find.new.places.items
    c.in-Some.next found c.requires.funds _ refl pays
