use Rattle.std.proofs.Common.{length, ap, sym, ◌∙◌, subst, arith}
use Rattle.term_core.proofs.Items.{if_ok_map}
use Rattle.spec_core.specs.WellSorted.{IsWellSorted}
use Rattle.clause_core.specs.ClauseLaws.{OneRelation}
use Rattle.descent.specs.SortedChildren.{ChildrenAreSorted}
use Rattle.inference_rules.specs.Answers.{clauses_of}
use Rattle.inference_rules.specs.Nodes.{AreNodes}
use Rattle.script_trim.specs.Finding.{FindsAmong, FindsCutAt}
use Rattle.script_trim.specs.Fitting.{own_steps, other_steps}
use Rattle.script_trim.proofs.FirstFits.{fitting_there}
use Rattle.script_trim.proofs.KeptClaims.{before_first, first_is, first_within, many_links}
use Rattle.script_trim.proofs.NodesKept.{kept_nodes}
use Rattle.script_trim.proofs.StagedFits.{others_fit, others_found, own_fit, own_found}
use Rattle.script_trim.proofs.first_cuts.cut_at.Goals as goal

pub own_fits-requires-clause-nodes : goal.own_fits-requires-clause-nodes
own_fits-requires-clause-nodes g c =
    let fine : IsWellSorted c.args.admitted.now.spec = rw (← c.admitted.view_is) c.admitted.invariant.0 in
    let one : OneRelation (g.O.TermOrder.above c.args.admitted.now.order) =
    rw (← c.admitted.view_is) c.one_relation.ensures in
    let keep : ChildrenAreSorted (g.O.TermOrder.above c.args.admitted.now.order) =
    rw (← c.admitted.view_is) c.children_are_sorted.ensures in
    subst (λ ns. AreNodes c.args.admitted.now.spec.sig (clauses_of ns)) (sym c.as_slice-nodes.ensures.value)
    (kept_nodes (g.O.TermOrder.above c.args.admitted.now.order) keep c.args.admitted.now.spec fine
    c.args.place.now.lemmas.now.numbers.items one c.tidying_laws.ensures c.args.place.now.report.now
    c.args.place.now.number c.args.block.now c.requires.kept c.requires.placed.proved)

pub own_fits-requires-clause-node : goal.own_fits-requires-clause-node
own_fits-requires-clause-node g c =
    let fine : IsWellSorted c.args.admitted.now.spec = rw (← c.admitted.view_is) c.admitted.invariant.0 in
    let one : OneRelation (g.O.TermOrder.above c.args.admitted.now.order) =
    rw (← c.admitted.view_is) c.one_relation.ensures in
    omega (
      arith,
      c.requires.before,
      before_first (g.O.TermOrder.above c.args.admitted.now.order) one
          c.args.admitted.now.spec fine c.args.place.now.report.now c.args.place.now.number c.args.block.now
          c.requires.kept c.args.node c.requires.there,
    )

pub own_fits-requires-clause-before : goal.own_fits-requires-clause-before
own_fits-requires-clause-before g c =
    let fine : IsWellSorted c.args.admitted.now.spec = rw (← c.admitted.view_is) c.admitted.invariant.0 in
    let one : OneRelation (g.O.TermOrder.above c.args.admitted.now.order) =
    rw (← c.admitted.view_is) c.one_relation.ensures in
    omega (
      arith,
      c.requires.before,
      ap length c.as_slice-nodes.ensures.value,
      first_within (g.O.TermOrder.above c.args.admitted.now.order) one c.args.admitted.now.spec fine
          c.args.place.now.report.now c.args.place.now.number c.args.block.now c.requires.kept c.args.node
          c.requires.there,
    )

pub other_fits-requires-clause-nodes : goal.other_fits-requires-clause-nodes
other_fits-requires-clause-nodes g c =
    let fine : IsWellSorted c.args.admitted.now.spec = rw (← c.admitted.view_is) c.admitted.invariant.0 in
    let one : OneRelation (g.O.TermOrder.above c.args.admitted.now.order) =
    rw (← c.admitted.view_is) c.one_relation.ensures in
    let keep : ChildrenAreSorted (g.O.TermOrder.above c.args.admitted.now.order) =
    rw (← c.admitted.view_is) c.children_are_sorted.ensures in
    subst (λ ns. AreNodes c.args.admitted.now.spec.sig (clauses_of ns)) (sym c.as_slice-nodes.ensures.value)
    (kept_nodes (g.O.TermOrder.above c.args.admitted.now.order) keep c.args.admitted.now.spec fine
    c.args.place.now.lemmas.now.numbers.items one c.tidying_laws.ensures c.args.place.now.report.now
    c.args.place.now.number c.args.block.now c.requires.kept c.requires.placed.proved)

pub other_fits-requires-clause-node : goal.other_fits-requires-clause-node
other_fits-requires-clause-node g c =
    let fine : IsWellSorted c.args.admitted.now.spec = rw (← c.admitted.view_is) c.admitted.invariant.0 in
    let one : OneRelation (g.O.TermOrder.above c.args.admitted.now.order) =
    rw (← c.admitted.view_is) c.one_relation.ensures in
    omega (
      arith,
      c.requires.before,
      before_first (g.O.TermOrder.above c.args.admitted.now.order) one
          c.args.admitted.now.spec fine c.args.place.now.report.now c.args.place.now.number c.args.block.now
          c.requires.kept c.args.node c.requires.there,
    )

pub other_fits-requires-clause-before : goal.other_fits-requires-clause-before
other_fits-requires-clause-before g c =
    let fine : IsWellSorted c.args.admitted.now.spec = rw (← c.admitted.view_is) c.admitted.invariant.0 in
    let one : OneRelation (g.O.TermOrder.above c.args.admitted.now.order) =
    rw (← c.admitted.view_is) c.one_relation.ensures in
    omega (
      arith,
      c.requires.before,
      ap length c.as_slice-nodes.ensures.value,
      first_within (g.O.TermOrder.above c.args.admitted.now.order) one c.args.admitted.now.spec fine
          c.args.place.now.report.now c.args.place.now.number c.args.block.now c.requires.kept c.args.node
          c.requires.there,
    )

pub cut_among-requires-clause-there : goal.cut_among-requires-clause-there
cut_among-requires-clause-there g c =
    let fine : IsWellSorted c.args.admitted.now.spec = rw (← c.admitted.view_is) c.admitted.invariant.0 in
    let one : OneRelation (g.O.TermOrder.above c.args.admitted.now.order) =
    rw (← c.admitted.view_is) c.one_relation.ensures in
    omega (
      arith,
      c.requires.there,
      many_links (g.O.TermOrder.above c.args.admitted.now.order) one
          c.args.admitted.now.spec fine c.args.place.now.report.now c.args.place.now.number c.args.block.now
          c.requires.kept,
    )

pub cut_among-requires-clause-fits : goal.cut_among-requires-clause-fits
cut_among-requires-clause-fits g c = λ k.
    let above = g.O.TermOrder.above c.args.admitted.now.order in
    let spec = c.args.admitted.now.spec in
    let fine : IsWellSorted c.args.admitted.now.spec = rw (← c.admitted.view_is) c.admitted.invariant.0 in
    let one : OneRelation (g.O.TermOrder.above c.args.admitted.now.order) =
    rw (← c.admitted.view_is) c.one_relation.ensures in
    let report = c.args.place.now.report.now in
    let number = c.args.place.now.number in
    let block = c.args.block.now in
    let node = c.args.node in
    own_fit above one spec fine report number block node c.in_ok-own.own.items k
    (fitting_there above one spec fine report number block k node own_steps c.in_ok-own.own.items
    c.args.place.now.lemmas.now.numbers.items c.requires.placed.proved c.as_slice-nodes.result.now c.args.before
    c.as_slice-nodes.ensures.value
    (c.requires.before ∙ first_is above one spec fine report number block k node c.requires.there)
    c.in_ok-own.ensures)

pub returns-in-Some : goal.returns-in-Some
returns-in-Some g c =
    let above = g.O.TermOrder.above c.args.admitted.now.order in
    let spec = c.args.admitted.now.spec in
    let fine : IsWellSorted c.args.admitted.now.spec = rw (← c.admitted.view_is) c.admitted.invariant.0 in
    let one : OneRelation (g.O.TermOrder.above c.args.admitted.now.order) =
    rw (← c.admitted.view_is) c.one_relation.ensures in
    let report = c.args.place.now.report.now in
    let number = c.args.place.now.number in
    let block = c.args.block.now in
    let node = c.args.node in
    own_found above one spec fine report number block node c.in_ok-own.own.items
    (λ k.
    fitting_there above one spec fine report number block k node own_steps c.in_ok-own.own.items
    c.args.place.now.lemmas.now.numbers.items c.requires.placed.proved c.as_slice-nodes.result.now c.args.before
    c.as_slice-nodes.ensures.value
    (c.requires.before ∙ first_is above one spec fine report number block k node c.requires.there)
    c.in_ok-own.ensures)
    c.in-Some.cut
    (subst (λ o. FindsAmong above spec report number block node c.in_ok-own.own.items o) c.in-Some.is
    c.in_ok-cut.ensures)

pub cut_among-requires-2-clause-there : goal.cut_among-requires-2-clause-there
cut_among-requires-2-clause-there g c =
    let fine : IsWellSorted c.args.admitted.now.spec = rw (← c.admitted.view_is) c.admitted.invariant.0 in
    let one : OneRelation (g.O.TermOrder.above c.args.admitted.now.order) =
    rw (← c.admitted.view_is) c.one_relation.ensures in
    omega (
      arith,
      c.requires.there,
      many_links (g.O.TermOrder.above c.args.admitted.now.order) one
          c.args.admitted.now.spec fine c.args.place.now.report.now c.args.place.now.number c.args.block.now
          c.requires.kept,
    )

pub cut_among-requires-2-clause-fits : goal.cut_among-requires-2-clause-fits
cut_among-requires-2-clause-fits g c = λ k.
    let above = g.O.TermOrder.above c.args.admitted.now.order in
    let spec = c.args.admitted.now.spec in
    let fine : IsWellSorted c.args.admitted.now.spec = rw (← c.admitted.view_is) c.admitted.invariant.0 in
    let one : OneRelation (g.O.TermOrder.above c.args.admitted.now.order) =
    rw (← c.admitted.view_is) c.one_relation.ensures in
    let report = c.args.place.now.report.now in
    let number = c.args.place.now.number in
    let block = c.args.block.now in
    let node = c.args.node in
    others_fit above one spec fine report number block node c.in_ok-others.others.items k
    (fitting_there above one spec fine report number block k node other_steps c.in_ok-others.others.items
    c.args.place.now.lemmas.now.numbers.items c.requires.placed.proved c.as_slice-nodes.result.now c.args.before
    c.as_slice-nodes.ensures.value
    (c.requires.before ∙ first_is above one spec fine report number block k node c.requires.there)
    c.in_ok-others.ensures)

pub returns : goal.returns
returns g c =
    let above = g.O.TermOrder.above c.args.admitted.now.order in
    let spec = c.args.admitted.now.spec in
    let fine : IsWellSorted c.args.admitted.now.spec = rw (← c.admitted.view_is) c.admitted.invariant.0 in
    let one : OneRelation (g.O.TermOrder.above c.args.admitted.now.order) =
    rw (← c.admitted.view_is) c.one_relation.ensures in
    let report = c.args.place.now.report.now in
    let number = c.args.place.now.number in
    let block = c.args.block.now in
    let node = c.args.node in
    if_ok_map c.cut_among-2.result
    (FindsAmong above spec report number block node c.in_ok-others.others.items)
    (FindsCutAt above spec report number block node)
    (others_found above one spec fine report number block node c.in_ok-own.own.items
    (λ k.
    fitting_there above one spec fine report number block k node own_steps c.in_ok-own.own.items
    c.args.place.now.lemmas.now.numbers.items c.requires.placed.proved c.as_slice-nodes.result.now c.args.before
    c.as_slice-nodes.ensures.value
    (c.requires.before ∙ first_is above one spec fine report number block k node c.requires.there)
    c.in_ok-own.ensures)
    c.in_ok-others.others.items
    (λ k.
    fitting_there above one spec fine report number block k node other_steps c.in_ok-others.others.items
    c.args.place.now.lemmas.now.numbers.items c.requires.placed.proved c.as_slice-nodes.result.now c.args.before
    c.as_slice-nodes.ensures.value
    (c.requires.before ∙ first_is above one spec fine report number block k node c.requires.there)
    c.in_ok-others.ensures)
    (subst (λ o. FindsAmong above spec report number block node c.in_ok-own.own.items o) c.in_default.is
    c.in_ok-cut.ensures)) c.cut_among-2.ensures
