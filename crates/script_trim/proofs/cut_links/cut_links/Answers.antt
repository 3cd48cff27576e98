use Rattle.std.proofs.Common.{◌≡◌, ◌∙◌, ◌<◌, ◌++◌, List, Bool, ◌∷◌, [], false, true, length, ap, subst, arith, rules}
use Rattle.std.specs.Prelude.{slice_set}
use Rattle.clause_core.specs.declared.answers.Children.{Children}
use Rattle.block_links.specs.Links.{links_of}
use Rattle.script_trim.specs.Flags.{flag_of, RefersWithin}
use Rattle.script_trim.specs.Made.{made_renumbered}
use Rattle.script_trim.proofs.LinkedCuts.{all_images, refers_set}
use Rattle.script_trim.proofs.Places.{length_set}
use Rattle.script_trim.proofs.StayingItems.{image_kept_next, image_left_past}
use Rattle.script_trim.proofs.cut_links.cut_links.Goals as goal

-- what the code writes for the links of a node that stays
abbrev renumbered : List Bool → Children → Children
renumbered stays m = links_of (made_renumbered (flag_of stays) m)

pub loop-number-preserved-then-not-stays-number : goal.loop-number-preserved-then-not-stays-number
loop-number-preserved-then-not-stays-number c =
    let links = slice_set c.args.links.now c.args.node c.args.closed.now in
    let off : flag_of c.args.stays.now c.loop-number.number ≡ false = search rules in
    let within : c.loop-number.number < length (slice_set c.args.links.now c.args.node c.args.closed.now) =
    omega (arith, c.loop-number-test.true, length_set c.args.links.now c.args.node c.args.closed.now) in
    image_left_past (flag_of c.args.stays.now) links c.loop-number.number within off (renumbered c.args.stays.now)
    c.loop-number.cut.items c.loop-number.invariant

pub renumbered_links-requires-clause-refs : goal.renumbered_links-requires-clause-refs
renumbered_links-requires-clause-refs c =
    let refers = refers_set (length c.args.links.now) c.args.links.now c.args.node c.args.closed.now c.requires.refs
    c.requires.closed c.loop-number.number c.with_other-link.result.now c.with_other-link.ensures in
    subst (λ n. RefersWithin n c.with_other-link.result.now) c.requires.long refers

pub loop-number-preserved : goal.loop-number-preserved
loop-number-preserved c =
    let links = slice_set c.args.links.now c.args.node c.args.closed.now in
    let set : flag_of c.args.stays.now c.loop-number.number ≡ true = search rules in
    let more : c.push.new.self.items ≡ c.loop-number.cut.items ++ c.in_ok-renumbered_links.field-0 ∷ [] =
    c.in_ok-push.ensures.items in
    image_kept_next (flag_of c.args.stays.now) links c.loop-number.number c.with_other-link.result.now
    c.with_other-link.ensures (renumbered c.args.stays.now) c.loop-number.cut.items c.push.new.self.items set
    c.loop-number.invariant
    (more ∙ ap (λ (m : Children). c.loop-number.cut.items ++ m ∷ []) c.in_ok-renumbered_links.ensures)

pub returns : goal.returns
returns c =
    all_images (flag_of c.args.stays.now) c.args.links.now c.args.node c.args.closed.now c.loop-number.number
    c.loop-number.cut.items (omega (arith, c.loop-number-test.false)) c.loop-number.invariant
