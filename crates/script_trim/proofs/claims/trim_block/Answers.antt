use Rattle.std.proofs.Common.{subst}
use Rattle.spec_core.specs.WellSorted.{IsWellSorted}
use Rattle.clause_core.specs.ClauseLaws.{OneRelation}
use Rattle.script_trim.specs.Finding.{FindsFirstCut}
use Rattle.script_trim.specs.Kept.{kept_report}
use Rattle.script_trim.specs.OneClaim.{LeadsWithin}
use Rattle.script_trim.proofs.TrimmedBlocks.{fewer_steps, no_more_cuts, one_block_name, one_cut}
use Rattle.script_trim.proofs.claims.trim_block.Goals as goal

pub loop-block-init : goal.loop-block-init
loop-block-init g c =
    let above = g.O.TermOrder.above c.args.admitted.now.order in
    let spec = c.args.admitted.now.spec in
    let report = c.args.place.now.report.now in
    let number = c.args.place.now.number in (
      c.requires.kept,
      λ k last l. subst (λ name. LeadsWithin above spec number
          (kept_report above spec report number name c.args.block) last)
          (one_block_name above spec report number c.args.block c.args.block c.requires.kept k) l,
    )

pub cut_block-requires : goal.cut_block-requires
cut_block-requires g c =
    let above = g.O.TermOrder.above c.args.admitted.now.order in
    let spec = c.args.admitted.now.spec in
    let report = c.args.place.now.report.now in
    let number = c.args.place.now.number in
    let h = subst (FindsFirstCut above spec report number c.loop-block.block) c.in-Some.is c.in_ok-cut.ensures
    c.loop-block.invariant.0 in
    let cut = c.in-Some.cut in
    (c.loop-block.invariant.0, h.0, h.1.first_step.closes)

pub loop-block-preserved : goal.loop-block-preserved
loop-block-preserved g c =
    let above = g.O.TermOrder.above c.args.admitted.now.order in
    let spec = c.args.admitted.now.spec in
    let fine : IsWellSorted c.args.admitted.now.spec = rw (← c.admitted.view_is) c.admitted.invariant.0 in
    let one : OneRelation (g.O.TermOrder.above c.args.admitted.now.order) =
    rw (← c.admitted.view_is) c.one_relation.ensures in
    let report = c.args.place.now.report.now in
    let number = c.args.place.now.number in
    let h = subst (FindsFirstCut above spec report number c.loop-block.block) c.in-Some.is c.in_ok-cut.ensures
    c.loop-block.invariant.0 in
    let cut = c.in-Some.cut in (
      c.in_ok-block.ensures.kept,
      λ k last l. c.loop-block.invariant.1 k last
          (one_cut above spec report number one fine c.loop-block.block c.in_ok-block.block c.loop-block.invariant.0
          cut.node cut.fit.step cut.rest.items h.1 c.in_ok-block.ensures.kept c.in_ok-block.ensures.steps last l),
    )

pub loop-block-smaller : goal.loop-block-smaller
loop-block-smaller g c =
    let above = g.O.TermOrder.above c.args.admitted.now.order in
    let spec = c.args.admitted.now.spec in
    let fine : IsWellSorted c.args.admitted.now.spec = rw (← c.admitted.view_is) c.admitted.invariant.0 in
    let one : OneRelation (g.O.TermOrder.above c.args.admitted.now.order) =
    rw (← c.admitted.view_is) c.one_relation.ensures in
    let report = c.args.place.now.report.now in
    let number = c.args.place.now.number in
    let h = subst (FindsFirstCut above spec report number c.loop-block.block) c.in-Some.is c.in_ok-cut.ensures
    c.loop-block.invariant.0 in
    let cut = c.in-Some.cut in
    fewer_steps above spec report number one fine c.loop-block.block c.in_ok-block.block c.loop-block.invariant.0
    cut.node cut.fit.step cut.rest.items h.1 c.in_ok-block.ensures.steps

pub returns : goal.returns
returns g c = λ k.
    let above = g.O.TermOrder.above c.args.admitted.now.order in
    let spec = c.args.admitted.now.spec in
    let report = c.args.place.now.report.now in
    let number = c.args.place.now.number in
    no_more_cuts above spec report number c.args.block c.loop-block.block k c.loop-block.invariant.0
    (subst (FindsFirstCut above spec report number c.loop-block.block) c.in_default.is c.in_ok-cut.ensures
    c.loop-block.invariant.0) (λ last l. c.loop-block.invariant.1 k last l)
