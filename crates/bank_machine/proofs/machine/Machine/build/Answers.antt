use Rattle.std.proofs.Common.{sym, ◌∙◌, subst, length}
use Rattle.value_bank.specs.Cells.{AreBelow}
use Rattle.value_bank.proofs.Placed.{terms_within}
use Rattle.rule_code.specs.Code.{slots}
use Rattle.bank_machine.specs.Stacks.{shown}
use Rattle.bank_machine.proofs.StackMoves.{build_slots, build_args, built}
use Rattle.bank_machine.proofs.machine.Machine.build.Goals as goal

pub gather-requires : goal.gather-requires
gather-requires c =
    let q = c.requires.works in
    build_slots c.args.self.now c.args.bank.now (shown c.args.stack.now) q.0 q.1 q.2 c.args.sym c.args.slots.now
    c.requires.there

pub add-requires : goal.add-requires
add-requires c =
    let q = c.requires.works in
    let h = build_args c.args.self.now c.args.bank.now (shown c.args.stack.now) q.0 q.1 q.2 c.args.sym
    c.args.slots.now c.requires.there in
    subst (λ ps. AreBelow (length c.args.bank.now) ps) (sym (c.deref.ensures.value ∙ c.in_ok-gather.ensures))
    (terms_within c.args.bank.now _ (slots q.0.top.env c.args.slots.now) h)

pub returns-clause-turn : goal.returns-clause-turn
returns-clause-turn c left s sort w pays = built c.args.self.now c.args.bank.now (shown c.args.stack.now) s sort
    w c.requires.fine c.args.sym c.args.slots.now c.requires.there c.add.new.self c.deref.result.now
    c.in_ok-place.place (shown c.put.new.self) left c.in_ok-place.ensures.adds (c.deref.ensures.value
    ∙ c.in_ok-gather.ensures) c.in_ok-place.ensures.found c.in_ok-put.ensures pays
