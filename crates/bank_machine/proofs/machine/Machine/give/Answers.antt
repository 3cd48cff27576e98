use Rattle.std.proofs.Common.{refl, subst, arith}
use Rattle.bank_machine.specs.Stacks.{shown, IsReturned}
use Rattle.bank_machine.proofs.StackMoves.{give_slot, gave, gave_last}
use Rattle.bank_machine.proofs.machine.Machine.give.Goals as goal

pub slot-place-requires : goal.slot-place-requires
slot-place-requires c =
    let q = c.requires.works in
    give_slot c.args.self.now c.args.bank.now (shown c.args.stack.now) q.0 q.1 q.2 c.args.slot c.requires.there

pub returns-in-None-clause-turn : goal.returns-in-None-clause-turn
returns-in-None-clause-turn c s sort w pays =
    let before = shown c.args.stack.now in
    let after = shown c.give.new.self in
    gave_last c.args.self.now c.args.bank.now before s sort w c.args.slot c.requires.there c.slot-place.result
    c.args.left after c.slot-place.ensures (subst (λ b. IsReturned before after c.slot-place.result b)
    c.in-None.is c.in_ok-give.ensures)

pub overflow_sub-cost : goal.overflow_sub-cost
overflow_sub-cost c =
    let q = c.requires.works in
    let before = shown c.args.stack.now in
    let after = shown c.give.new.self in
    let g = gave c.args.self.now c.args.bank.now before q.0 q.1 q.2 c.args.slot c.requires.there
    c.slot-place.result c.args.left c.in-Some.before after c.slot-place.ensures
    (subst (λ b. IsReturned before after c.slot-place.result b) c.in-Some.is c.in_ok-give.ensures) q.3 in
    omega (arith, g.paid)

pub keep-requires-clause-called : goal.keep-requires-clause-called
keep-requires-clause-called c =
    let q = c.requires.works in
    let before = shown c.args.stack.now in
    let after = shown c.give.new.self in
    let g = gave c.args.self.now c.args.bank.now before q.0 q.1 q.2 c.args.slot c.requires.there
    c.slot-place.result c.args.left c.in-Some.before after c.slot-place.ensures
    (subst (λ b. IsReturned before after c.slot-place.result b) c.in-Some.is c.in_ok-give.ensures) q.3 in
    (g.function, g.arguments, g.has_called, g.right _ refl refl)

pub returns-in_ok-keep-in-Some-clause-turn : goal.returns-in_ok-keep-in-Some-clause-turn
returns-in_ok-keep-in-Some-clause-turn c s sort w pays =
    let before = shown c.args.stack.now in
    let after = shown c.give.new.self in
    let g = gave c.args.self.now c.args.bank.now before s sort w c.args.slot c.requires.there
    c.slot-place.result c.args.left c.in-Some.before after c.slot-place.ensures
    (subst (λ b. IsReturned before after c.slot-place.result b) c.in-Some.is c.in_ok-give.ensures) pays in
    g.turns
