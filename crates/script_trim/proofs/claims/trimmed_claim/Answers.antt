use Rattle.std.proofs.Common.{◌≡◌, refl, sym, subst}
use Rattle.term_core.proofs.Items.{if_ok_map}
use Rattle.script_trim.specs.OneClaim.{with_claim, LeadsWithin}
use Rattle.script_trim.specs.Trimmed.{proves}
use Rattle.script_trim.proofs.TrimmedBlocks.{claim_proves, proved_trims, unproved_stays}
use Rattle.script_trim.proofs.claims.trimmed_claim.Goals as goal

pub returns-in_default : goal.returns-in_default
returns-in_default g c =
    let above = g.O.TermOrder.above c.args.admitted.now.order in
    let spec = c.args.admitted.now.spec in
    let report = c.args.place.now.report.now in
    let number = c.args.place.now.number in
    if_ok_map c.copy_claim.result (λ made. made ≡ c.args.claim.now)
    (λ made. LeadsWithin above spec number report (with_claim report number made))
    (λ made e. subst (λ x. LeadsWithin above spec number report (with_claim report number x)) (sym e)
    (unproved_stays above spec report number c.args.claim.now c.requires.there c.in_default.not-Proved))
    c.copy_claim.ensures

pub kept_block-requires-clause-goal : goal.kept_block-requires-clause-goal
kept_block-requires-clause-goal g c = (c.requires.goal.0, c.requires.goal.1)

pub kept_block-requires-clause-there : goal.kept_block-requires-clause-there
kept_block-requires-clause-there g c =
    claim_proves c.args.place.now.report.now.claims c.args.place.now.number c.args.claim.now c.args.goal.now.name
    c.in-Proved.block c.as_slice.result.now c.requires.there c.requires.goal.2 c.in-Proved.is c.as_slice.ensures

pub returns : goal.returns
returns g c =
    let above = g.O.TermOrder.above c.args.admitted.now.order in
    let spec = c.args.admitted.now.spec in
    let report = c.args.place.now.report.now in
    let number = c.args.place.now.number in
    let at = claim_proves report.claims number c.args.claim.now c.args.claim.now.goal c.in-Proved.block
    c.as_slice.result.now c.requires.there refl c.in-Proved.is c.as_slice.ensures in
    let k = c.in_ok-kept.ensures.kept in
    let leads = proved_trims above spec report number c.in_ok-kept.kept k c.args.claim.now.goal c.as_slice.result.now
    c.in_ok-steps.steps.items at c.in_ok-kept.ensures.steps (c.in_ok-steps.ensures k) in
    subst (λ x. LeadsWithin above spec number report (with_claim report number x))
    (λ j. proves (sym c.in_ok-name.ensures j) (sym c.from_vec-steps.ensures j)) leads
