use Rattle.std.proofs.Common.{◌+◌, ◌∷◌, [], List, Err, ap, arith, sym, ◌∙◌, subst, length, length-append}
use Rattle.session_core.specs.declared.commands.Command.{Command}
use Rattle.session_core.specs.CommandText.{not_ended, strange, too_many}
use Rattle.session_core.proofs.ReadLines.{HasRead, all_read, is_empty, more_read, none_read, not_empty, stops}
use Rattle.session_core.proofs.reading.read_commands.Goals as goal

pub loop-number-init : goal.loop-number-init
loop-number-init c = (
  subst (λ cs. HasRead c.args.sig.now c.args.bytes.now c.args.bytes.now cs) (sym c.new-commands.ensures.items)
      (none_read c.args.sig.now c.args.bytes.now),
  ap length c.new-commands.ensures.items,
)

pub returns-then-is_empty : goal.returns-then-is_empty
returns-then-is_empty c =
    let k = c.loop-number in
    all_read c.args.sig.now c.args.bytes.now k.rest.now k.commands.items k.invariant.0 (is_empty k.rest.now
    (sym c.if-is_empty.ensures)) (omega (arith, k.invariant.1, c.loop-number-test.true))

pub returns-in_default : goal.returns-in_default
returns-in_default c =
    let k = c.loop-number in
    stops c.args.sig.now c.args.bytes.now k.rest.now k.commands.items k.invariant.0 (omega (
      arith,
      k.invariant.1,
      c.loop-number-test.true,
    ))
    (λ before long. not_ended (not_empty k.rest.now (sym c.if-is_empty.ensures)) c.in_default.ensures)
    (k.number + 1) (omega (arith, k.invariant.1))

pub returns-in-Err-NotAStep : goal.returns-in-Err-NotAStep
returns-in-Err-NotAStep c =
    let k = c.loop-number in
    let p = c.in-Some in
    stops c.args.sig.now c.args.bytes.now k.rest.now k.commands.items k.invariant.0 (omega (
      arith,
      k.invariant.1,
      c.loop-number-test.true,
    ))
    (λ before long. strange p.line.now p.others.now p.ensures.1 p.ensures.0 (c.read_command.ensures.none
    (c.in-Err-NotAStep.is ∙ ap Err c.in-Err-NotAStep.field-0-is)))
    (k.number + 1) (omega (arith, k.invariant.1))

pub loop-number-preserved : goal.loop-number-preserved
loop-number-preserved c =
    let k = c.loop-number in
    let p = c.in-Some in
    let pushed = c.in_ok-push_command.ensures.pushed in
    let more = more_read c.args.sig.now c.args.bytes.now k.rest.now k.commands.items k.invariant.0 p.line.now
    p.others.now c.in-Ok.command p.ensures.1 p.ensures.0 c.in-Ok.ensures.ok in (
      subst (λ cs. HasRead c.args.sig.now c.args.bytes.now p.others.now cs) (sym pushed) more,
      omega (
        arith,
        ap (λ (cs : List Command). length cs) pushed,
        length-append k.commands.items (c.in-Ok.command ∷ []),
        k.invariant.1,
      ),
    )

pub returns-then-is_empty-2 : goal.returns-then-is_empty-2
returns-then-is_empty-2 c =
    let k = c.loop-number in
    all_read c.args.sig.now c.args.bytes.now k.rest.now k.commands.items k.invariant.0 (is_empty k.rest.now
    (sym c.if-is_empty-2.ensures)) (omega (arith, k.invariant.1, k.auto.number-end))

pub returns : goal.returns
returns c =
    let k = c.loop-number in
    stops c.args.sig.now c.args.bytes.now k.rest.now k.commands.items k.invariant.0 (omega (
      arith,
      k.invariant.1,
      k.auto.number-end,
    ))
    (λ before long. too_many (not_empty k.rest.now (sym c.if-is_empty-2.ensures)) (omega (
      arith,
      long,
      k.invariant.1,
      k.auto.number-end,
      c.loop-number-test.false,
    )))
    100001 (omega (arith, k.invariant.1, k.auto.number-end, c.loop-number-test.false))
