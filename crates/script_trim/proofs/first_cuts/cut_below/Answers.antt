use Rattle.std.proofs.Common.{arith, ◌≡◌, ◌≢◌, ◌<◌, get_or, [], Some, true, false, refl, sym, ◌∙◌, ap, length}
use Rattle.std.specs.Prelude.{slice_get}
use Rattle.std.proofs.lemmas.Option.{slice_get_read}
use Rattle.term_core.proofs.Items.{if_ok_map}
use Rattle.spec_core.specs.WellSorted.{IsWellSorted}
use Rattle.clause_core.specs.ClauseLaws.{OneRelation}
use Rattle.script_trim.specs.Finding.{FindsCutAt, FindsCutBelow}
use Rattle.script_trim.proofs.FoundCuts.{below_node}
use Rattle.script_trim.proofs.KeptClaims.{has_children, has_no_children, many_links}
use Rattle.script_trim.proofs.OnlyItself.{isnt_closed}
use Rattle.script_trim.proofs.first_cuts.cut_below.Goals as goal

pub returns-then-is_empty : goal.returns-then-is_empty
returns-then-is_empty g c = λ k could.
    let above = g.O.TermOrder.above c.args.admitted.now.order in
    let spec = c.args.admitted.now.spec in
    let fine : IsWellSorted c.args.admitted.now.spec = rw (← c.admitted.view_is) c.admitted.invariant.0 in
    let one : OneRelation (g.O.TermOrder.above c.args.admitted.now.order) =
    rw (← c.admitted.view_is) c.one_relation.ensures in
    let report = c.args.place.now.report.now in
    let number = c.args.place.now.number in
    let block = c.args.block.now in
    let links = c.args.block.now.links.items in
    let is = c.index-links-node.is ∙ ap (λ ls. get_or ls c.args.node c.index-links-node.result)
    c.as_slice-links.ensures.value in
    let at = slice_get_read links (length links) c.args.node c.index-links-node.result refl c.requires.there is in
    has_no_children above one spec fine report number block k c.args.node c.index-links-node.result at
    (c.if-is_empty.ensures.0 refl) could.0

pub returns : goal.returns
returns g c =
    let above = g.O.TermOrder.above c.args.admitted.now.order in
    let spec = c.args.admitted.now.spec in
    let fine : IsWellSorted c.args.admitted.now.spec = rw (← c.admitted.view_is) c.admitted.invariant.0 in
    let one : OneRelation (g.O.TermOrder.above c.args.admitted.now.order) =
    rw (← c.admitted.view_is) c.one_relation.ensures in
    let report = c.args.place.now.report.now in
    let number = c.args.place.now.number in
    let block = c.args.block.now in
    let links = c.args.block.now.links.items in
    let is = c.index-links-node.is ∙ ap (λ ls. get_or ls c.args.node c.index-links-node.result)
    c.as_slice-links.ensures.value in
    let at = slice_get_read links (length links) c.args.node c.index-links-node.result refl c.requires.there is in
    let some : c.index-links-node.result.clauses ≢ [] = λ e. (let q : false ≡ true = c.if-is_empty.ensures.1 e in cc) in
    if_ok_map c.cut_at.result (FindsCutAt above spec report number block c.args.node)
    (FindsCutBelow above spec report number block c.args.node)
    (λ found h. below_node above spec report number block c.args.node
    (λ k. has_children above one spec fine report number block k c.args.node c.index-links-node.result at some)
    found h) c.cut_at.ensures

pub bounds-flags-node : goal.bounds-flags-node
bounds-flags-node g c =
    let fine : IsWellSorted c.args.admitted.now.spec = rw (← c.admitted.view_is) c.admitted.invariant.0 in
    let one : OneRelation (g.O.TermOrder.above c.args.admitted.now.order) =
    rw (← c.admitted.view_is) c.one_relation.ensures in
    omega (
      arith,
      ap length c.as_slice-flags.ensures.value,
      c.requires.kept.flags,
      c.requires.there,
      many_links (g.O.TermOrder.above c.args.admitted.now.order) one c.args.admitted.now.spec fine
          c.args.place.now.report.now c.args.place.now.number c.args.block.now c.requires.kept,
    )

pub returns-then-not-flags-node : goal.returns-then-not-flags-node
returns-then-not-flags-node g c = λ k could.
    let above = g.O.TermOrder.above c.args.admitted.now.order in
    let spec = c.args.admitted.now.spec in
    let fine : IsWellSorted c.args.admitted.now.spec = rw (← c.admitted.view_is) c.admitted.invariant.0 in
    let one : OneRelation (g.O.TermOrder.above c.args.admitted.now.order) =
    rw (← c.admitted.view_is) c.one_relation.ensures in
    let report = c.args.place.now.report.now in
    let number = c.args.place.now.number in
    let block = c.args.block.now in
    let flags = c.args.block.now.hopeful.items in
    let lt : c.args.node < length c.args.block.now.hopeful.items =
    omega (
      arith,
      c.requires.kept.flags,
      c.requires.there,
      many_links (g.O.TermOrder.above c.args.admitted.now.order) one c.args.admitted.now.spec fine
          c.args.place.now.report.now c.args.place.now.number c.args.block.now c.requires.kept,
    ) in
    let is : false ≡ get_or c.args.block.now.hopeful.items c.args.node false =
    sym c.if-not-flags-node.true ∙ ap (λ fs. get_or fs c.args.node false) c.as_slice-flags.ensures.value in
    let off : slice_get c.args.block.now.hopeful.items c.args.node ≡ Some false =
    slice_get_read flags (length flags) c.args.node false refl lt is in
    isnt_closed above one spec fine report number block k c.args.node (k.hopeless c.args.node off) could.1.0
    could.1.1 could.1.2
