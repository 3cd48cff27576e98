use Rattle.std.proofs.Common.{◌≡◌, ◌+◌, ◌≤◌, [], ◌∷◌, refl, sym, subst, length}
use Rattle.proof_script.specs.Steps.{step_line}
use Rattle.proof_script.specs.Words.{line_text}
use Rattle.std.proofs.lemmas.Option.{slice_get_within}
use Rattle.proof_script.specs.Ranges.{ClaimIsInRange}
use Rattle.script_trim.specs.Trimmed.{proves}
use Rattle.script_trim.proofs.ClosingRanges.{fit_in_range}
use Rattle.term_core.proofs.Items.{if_ok_map}
use Rattle.spec_core.specs.WellSorted.{IsWellSorted}
use Rattle.clause_core.specs.ClauseLaws.{OneRelation}
use Rattle.script_trim.specs.declared.blocks.KeptBlock.{KeptBlock}
use Rattle.script_trim.specs.Cutting.{IsLeft}
use Rattle.script_trim.specs.Kept.{IsKept}
use Rattle.script_trim.proofs.BlockRests.{cuttable}
use Rattle.script_trim.proofs.KeptCuts.{closes_within, still_kept}
use Rattle.script_trim.proofs.cutting.cut_block.Goals as goal

pub left_block-requires : goal.left_block-requires
left_block-requires g c =
    let above = g.O.TermOrder.above c.args.admitted.now.order in
    let spec = c.args.admitted.now.spec in
    let report = c.args.place.now.report.now in
    let number = c.args.place.now.number in
    let fine : IsWellSorted c.args.admitted.now.spec = rw (← c.admitted.view_is) c.admitted.invariant.0 in
    let one : OneRelation (g.O.TermOrder.above c.args.admitted.now.order) = rw (← c.admitted.view_is)
    c.one_relation.ensures in
    let within = closes_within above one spec fine report number c.args.block c.requires.0 c.args.cut.node
    c.args.cut.fit.step c.args.cut.rest.items c.requires.2 in
    cuttable above one spec fine report number c.args.block c.requires.0 c.args.cut.node within c.args.cut.fit
    c.requires.1

pub returns : goal.returns
returns g c =
    let above = g.O.TermOrder.above c.args.admitted.now.order in
    let spec = c.args.admitted.now.spec in
    let report = c.args.place.now.report.now in
    let number = c.args.place.now.number in
    let fine : IsWellSorted c.args.admitted.now.spec = rw (← c.admitted.view_is) c.admitted.invariant.0 in
    let one : OneRelation (g.O.TermOrder.above c.args.admitted.now.order) = rw (← c.admitted.view_is)
    c.one_relation.ensures in
    let within = closes_within above one spec fine report number c.args.block c.requires.0 c.args.cut.node
    c.args.cut.fit.step c.args.cut.rest.items c.requires.2 in
    let sig_is : c.admitted.inside.spec.sig ≡ c.args.admitted.now.spec.sig = rw (← c.admitted.view_is) refl in
    let grown = subst (λ s. c.args.block.bytes + length (line_text s (step_line c.args.cut.fit.step))
    ≤ c.in_ok-bytes.bytes) sig_is c.in_ok-bytes.ensures in
    record {
      steps = if_ok_map c.left_block.result (IsLeft c.args.block c.args.cut.node c.args.cut.fit.made
          c.args.cut.rest.items c.in_ok-bytes.bytes) (λ (made : KeptBlock). made.steps.items ≡ c.args.cut.rest.items)
          (λ made left. left.steps) c.left_block.ensures;
      kept = if_ok_map c.left_block.result (IsLeft c.args.block c.args.cut.node c.args.cut.fit.made
          c.args.cut.rest.items c.in_ok-bytes.bytes) (IsKept above spec report number)
          (λ made left. still_kept above one spec fine report number c.args.block c.requires.0 c.args.cut.node within
          c.args.cut.fit c.requires.1 c.args.cut.rest.items c.requires.2 c.in_ok-bytes.bytes grown made left)
          c.left_block.ensures;
    }

pub name_at-name-requires : goal.name_at-name-requires
name_at-name-requires g c =
    slice_get_within c.args.place.now.report.now.claims c.args.place.now.number _ c.requires.0.there

pub bytes_with-requires : goal.bytes_with-requires
bytes_with-requires g c =
    let above = g.O.TermOrder.above c.args.admitted.now.order in
    let spec = c.args.admitted.now.spec in
    let report = c.args.place.now.report.now in
    let number = c.args.place.now.number in
    let fine : IsWellSorted c.args.admitted.now.spec = rw (← c.admitted.view_is) c.admitted.invariant.0 in
    let one : OneRelation (g.O.TermOrder.above c.args.admitted.now.order) = rw (← c.admitted.view_is)
    c.one_relation.ensures in
    let within = closes_within above one spec fine report number c.args.block c.requires.0 c.args.cut.node
    c.args.cut.fit.step c.args.cut.rest.items c.requires.2 in
    let sig_is : c.admitted.inside.spec.sig ≡ c.args.admitted.now.spec.sig = rw (← c.admitted.view_is) refl in
    subst (λ s. ClaimIsInRange s (proves c.name_at-name.result.now (c.args.cut.fit.step ∷ []))) (sym sig_is)
    (fit_in_range above one spec fine report number c.args.block c.requires.0 c.args.cut.node within c.args.cut.fit
    c.requires.1 c.name_at-name.result.now)
