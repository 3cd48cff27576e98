use Rattle.std.proofs.Common.{◌<◌, length, get_or, refl, ◌∙◌, ap, subst, arith}
use Rattle.std.proofs.lemmas.Option.{slice_get_read}
use Rattle.spec_core.specs.WellSorted.{IsWellSorted}
use Rattle.clause_core.specs.ClauseLaws.{OneRelation}
use Rattle.script_trim.specs.Finding.{FindsCutBelow}
use Rattle.script_trim.proofs.FoundCuts.{first_found, none_more}
use Rattle.script_trim.proofs.HopefulNodes.{first_next}
use Rattle.script_trim.proofs.KeptClaims.{after_within, children_within}
use Rattle.script_trim.proofs.first_cuts.first_cut.Goals as goal

pub overflow_add-after : goal.overflow_add-after
overflow_add-after g c =
    let above = g.O.TermOrder.above c.args.admitted.now.order in
    let spec = c.args.admitted.now.spec in
    let fine : IsWellSorted c.args.admitted.now.spec = rw (← c.admitted.view_is) c.admitted.invariant.0 in
    let one : OneRelation (g.O.TermOrder.above c.args.admitted.now.order) =
    rw (← c.admitted.view_is) c.one_relation.ensures in
    let report = c.args.place.now.report.now in
    let number = c.args.place.now.number in
    let block = c.args.block.now in
    let links = c.args.block.now.links.items in
    let lt : c.loop-node.node < length c.args.block.now.links.items =
    omega (arith, c.loop-node-test.true, ap length c.as_slice-made-items.ensures.value) in
    let is = c.made-item.is ∙ ap (λ ls. get_or ls c.loop-node.node c.made-item.result)
    c.as_slice-made-items.ensures.value in
    let at = slice_get_read links (length links) c.loop-node.node c.made-item.result refl lt is in
    let few = after_within above one spec fine report number block c.requires.kept c.loop-node.node lt
    c.made-item.result at in
    omega (
      arith,
      few,
      c.loop-node.invariant.0,
      c.len.ensures,
      c.args.block.now.nodes.ok.0,
      c.args.block.now.nodes.small,
    )

pub returns-in-Some : goal.returns-in-Some
returns-in-Some g c =
    let above = g.O.TermOrder.above c.args.admitted.now.order in
    let spec = c.args.admitted.now.spec in
    let report = c.args.place.now.report.now in
    let number = c.args.place.now.number in
    let block = c.args.block.now in
    first_found above spec report number block c.loop-node.node c.in-Some.cut
    (subst (FindsCutBelow above spec report number block c.loop-node.node) c.in-Some.is c.in_ok-cut.ensures)
    c.loop-node.invariant.1

pub loop-node-preserved : goal.loop-node-preserved
loop-node-preserved g c =
    let above = g.O.TermOrder.above c.args.admitted.now.order in
    let spec = c.args.admitted.now.spec in
    let report = c.args.place.now.report.now in
    let number = c.args.place.now.number in
    let block = c.args.block.now in
    let links = c.args.block.now.links.items in
    let lt : c.loop-node.node < length c.args.block.now.links.items =
    omega (arith, c.loop-node-test.true, ap length c.as_slice-made-items.ensures.value) in
    let is = c.made-item.is ∙ ap (λ ls. get_or ls c.loop-node.node c.made-item.result)
    c.as_slice-made-items.ensures.value in
    let at = slice_get_read links (length links) c.loop-node.node c.made-item.result refl lt is in
    let next = first_next links c.loop-node.node c.made-item.result at in (
      omega (arith, next, c.loop-node.invariant.0, c.len.ensures),
      none_more above spec report number block c.loop-node.node
          (subst (FindsCutBelow above spec report number block c.loop-node.node) c.in_default.is c.in_ok-cut.ensures)
          c.loop-node.invariant.1,
    )

pub returns : goal.returns
returns g c = λ k i could.
    let above = g.O.TermOrder.above c.args.admitted.now.order in
    let spec = c.args.admitted.now.spec in
    let fine : IsWellSorted c.args.admitted.now.spec = rw (← c.admitted.view_is) c.admitted.invariant.0 in
    let one : OneRelation (g.O.TermOrder.above c.args.admitted.now.order) =
    rw (← c.admitted.view_is) c.one_relation.ensures in
    let report = c.args.place.now.report.now in
    let number = c.args.place.now.number in
    let block = c.args.block.now in
    let l = children_within above one spec fine report number block k i could.0 in
    c.loop-node.invariant.1 k i (omega (
      arith,
      l,
      c.loop-node-test.false,
      ap length c.as_slice-made-items.ensures.value,
    )) could
