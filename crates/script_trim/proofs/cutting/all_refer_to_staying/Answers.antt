use Rattle.std.proofs.Common.{◌≡◌, ◌<◌, false, true, length, refl, arith, rules}
use Rattle.std.specs.Prelude.{slice_set}
use Rattle.script_trim.specs.Cut.{RefersToStaying}
use Rattle.script_trim.specs.Flags.{flag_of}
use Rattle.script_trim.proofs.Places.{length_set}
use Rattle.script_trim.proofs.StayingItems.{all_kept_at, all_kept_next, all_left_past}
use Rattle.script_trim.proofs.cutting.all_refer_to_staying.Goals as goal

pub loop-number-preserved-then-not-stays-number : goal.loop-number-preserved-then-not-stays-number
loop-number-preserved-then-not-stays-number c =
    let xs = slice_set c.args.steps.now c.args.node c.args.closing.now in
    let e : flag_of c.args.stays.now c.loop-number.number ≡ false = search rules in
    let within : c.loop-number.number < length (slice_set c.args.steps.now c.args.node c.args.closing.now) = omega
    (arith, c.loop-number-test.true, length_set c.args.steps.now c.args.node c.args.closing.now) in
    all_left_past (flag_of c.args.stays.now) xs c.loop-number.number within e
    (RefersToStaying (flag_of c.args.stays.now)) c.loop-number.invariant

pub returns-then-not-refers_to_staying : goal.returns-then-not-refers_to_staying
returns-then-not-refers_to_staying c =
    let xs = slice_set c.args.steps.now c.args.node c.args.closing.now in
    let e : flag_of c.args.stays.now c.loop-number.number ≡ true = search rules in (
      λ f. absurd (let q : false ≡ true = f in cc),
      λ all. c.if-not-refers_to_staying.ensures.1
          (all_kept_at (flag_of c.args.stays.now) xs c.loop-number.number c.with_other-step.result.now
          c.with_other-step.ensures (RefersToStaying (flag_of c.args.stays.now)) e all),
    )

pub loop-number-preserved : goal.loop-number-preserved
loop-number-preserved c =
    let xs = slice_set c.args.steps.now c.args.node c.args.closing.now in
    let e : flag_of c.args.stays.now c.loop-number.number ≡ true = search rules in
    all_kept_next (flag_of c.args.stays.now) xs c.loop-number.number c.with_other-step.result.now
    c.with_other-step.ensures (RefersToStaying (flag_of c.args.stays.now)) e
    (c.if-not-refers_to_staying.ensures.0 refl) c.loop-number.invariant
