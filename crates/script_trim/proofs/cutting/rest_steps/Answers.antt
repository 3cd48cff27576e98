use Rattle.std.proofs.Common.{◌≡◌, ◌∙◌, ◌<◌, ◌++◌, ◌∷◌, [], false, true, length, sym, ap, subst, arith, rules}
use Rattle.std.specs.Prelude.{slice_set}
use Rattle.clause_core.specs.declared.steps.Step.{Step}
use Rattle.script_trim.specs.Cut.{renumbered, RefersToStaying}
use Rattle.script_trim.specs.Flags.{flag_of}
use Rattle.script_trim.proofs.Places.{length_set}
use Rattle.script_trim.proofs.StayingItems.{all_kept_at, image_kept_next, image_left_past}
use Rattle.script_trim.proofs.cutting.rest_steps.Goals as goal

pub loop-number-preserved-then-not-stays-number : goal.loop-number-preserved-then-not-stays-number
loop-number-preserved-then-not-stays-number c =
    let xs = slice_set c.args.steps.now c.args.node c.args.closing.now in
    let e : flag_of c.args.stays.now c.loop-number.number ≡ false = search rules in
    let within : c.loop-number.number < length (slice_set c.args.steps.now c.args.node c.args.closing.now) = omega
    (arith, c.loop-number-test.true, length_set c.args.steps.now c.args.node c.args.closing.now) in
    image_left_past (flag_of c.args.stays.now) xs c.loop-number.number within e (renumbered (flag_of c.args.stays.now))
    c.loop-number.rest.items c.loop-number.invariant

pub with_new_number-requires-clause-refers : goal.with_new_number-requires-clause-refers
with_new_number-requires-clause-refers c =
    let xs = slice_set c.args.steps.now c.args.node c.args.closing.now in
    let e : flag_of c.args.stays.now c.loop-number.number ≡ true = search rules in
    let refers : RefersToStaying (flag_of c.args.stays.now) c.with_other.result.now = all_kept_at
    (flag_of c.args.stays.now) xs c.loop-number.number c.with_other.result.now c.with_other.ensures
    (RefersToStaying (flag_of c.args.stays.now)) e c.requires.refer in
    subst (RefersToStaying (flag_of c.args.stays.now)) (sym c.in_ok-step.ensures) refers

pub loop-number-preserved : goal.loop-number-preserved
loop-number-preserved c =
    let xs = slice_set c.args.steps.now c.args.node c.args.closing.now in
    let e : flag_of c.args.stays.now c.loop-number.number ≡ true = search rules in
    let more : c.push.new.self.items ≡ c.loop-number.rest.items ++ c.with_new_number.result ∷ [] =
    c.in_ok-push.ensures.items in
    let is : c.with_new_number.result ≡ renumbered (flag_of c.args.stays.now) c.with_other.result.now =
    c.with_new_number.ensures ∙ ap (λ (s : Step). renumbered (flag_of c.args.stays.now) s) c.in_ok-step.ensures in
    image_kept_next (flag_of c.args.stays.now) xs c.loop-number.number c.with_other.result.now c.with_other.ensures
    (renumbered (flag_of c.args.stays.now)) c.loop-number.rest.items c.push.new.self.items e
    c.loop-number.invariant (more ∙ ap (λ (s : Step). c.loop-number.rest.items ++ s ∷ []) is)
