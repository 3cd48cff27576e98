use Rattle.std.proofs.Common.{◌∙◌, arith}
use Rattle.bank_machine.specs.KeptCalls.{Says}
use Rattle.bank_machine.specs.Stacks.{shown}
use Rattle.bank_machine.proofs.StackMoves.{none_left, calls_step, call_slots, recalled, not_recalled}
use Rattle.bank_machine.proofs.machine.Machine.call.Goals as goal

pub returns-then-left-eq0 : goal.returns-then-left-eq0
returns-then-left-eq0 c s sort w pays =
    let p = c.args.self.now in
    let before = shown c.args.stack.now in
    none_left p c.args.bank.now before s sort w c.requires.fine c.args.sym c.args.slots.now
    (calls_step p c.args.bank.now before s sort w c.requires.fine c.args.sym c.args.slots.now
    c.requires.there) c.args.left c.if-left-eq0.true before c.args.bank.now

pub gather-requires : goal.gather-requires
gather-requires c =
    let q = c.requires.works in
    call_slots c.args.self.now c.args.bank.now (shown c.args.stack.now) q.0 q.1 q.2 c.requires.fine c.args.sym
    c.args.slots.now c.requires.there

pub enter-requires-clause-calls : goal.enter-requires-clause-calls
enter-requires-clause-calls c = (
  c.args.slots.now,
  c.requires.there,
  c.deref-in-None.ensures.value
      ∙ c.in_ok-gather.ensures,
)

pub returns-then-known-left : goal.returns-then-known-left
returns-then-known-left c s sort w pays =
    let p = c.args.self.now in
    let says : Says c.args.kept.now c.args.sym c.deref.result.now c.in-Some.known = c.in-Some.ensures in
    not_recalled p c.args.bank.now (shown c.args.stack.now) s sort w c.requires.fine c.args.sym c.args.slots.now
    c.requires.there c.deref.result.now (c.deref.ensures.value ∙ c.in_ok-gather.ensures) c.in-Some.known
    (c.requires.kept c.args.sym c.deref.result.now c.in-Some.known says) c.args.left
    (omega (arith, c.if-known-left.true)) (shown c.args.stack.now) c.args.bank.now

pub returns-in_ok-put-in-Some : goal.returns-in_ok-put-in-Some
returns-in_ok-put-in-Some c s sort w pays =
    let p = c.args.self.now in
    let says : Says c.args.kept.now c.args.sym c.deref.result.now c.in-Some.known = c.in-Some.ensures in
    recalled p c.args.bank.now (shown c.args.stack.now) s sort w c.requires.fine c.args.sym c.args.slots.now
    c.requires.there c.deref.result.now (c.deref.ensures.value ∙ c.in_ok-gather.ensures) c.in-Some.known
    (c.requires.kept c.args.sym c.deref.result.now c.in-Some.known says) c.args.left
    (omega (arith, c.if-known-left.false)) (shown c.put.new.self) c.in_ok-put-in-Some.ensures pays
