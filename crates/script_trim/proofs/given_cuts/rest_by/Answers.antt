use Rattle.std.proofs.Common.{◌≡◌, ◌∙◌, ◌<◌, ◌↔◌, List, false, true, get_or, refl, sym, ap, subst, arith, length, rules}
use Rattle.std.proofs.Common.{take}
use Rattle.std.specs.Prelude.{Contains, IfOk, IsTrue, MatchOption}
use Rattle.std.proofs.lemmas.List.{length-map}
use Rattle.std.proofs.lemmas.Option.{slice_get_read}
use Rattle.spec_core.specs.declared.records.Spec.{Spec}
use Rattle.spec_core.specs.WellSorted.{IsWellSorted}
use Rattle.clause_core.specs.declared.answers.Children.{Children}
use Rattle.clause_core.specs.declared.steps.Step.{Step}
use Rattle.clause_core.specs.ClauseLaws.{OneRelation}
use Rattle.descent.specs.SortedChildren.{ChildrenAreSorted}
use Rattle.acceptance.specs.AllowedAnswers.{IsWholeBlock}
use Rattle.acceptance.specs.Blocks.{StepMakes}
use Rattle.acceptance.specs.Strict.{first_child}
use Rattle.block_links.proofs.LinksAlone.{there_mapped}
use Rattle.inference_rules.specs.declared.nodes.Node.{Node}
use Rattle.inference_rules.specs.Answers.{clauses_of}
use Rattle.inference_rules.specs.Nodes.{AreNodes}
use Rattle.script_trim.specs.Closing.{closing_steps}
use Rattle.script_trim.specs.Cutting.{ClosesAt}
use Rattle.script_trim.specs.Kept.{IsKept}
use Rattle.script_trim.proofs.BlockRests.{few_clauses, long_links, long_nodes, whole_linked}
use Rattle.script_trim.proofs.FirstFits.{match_none, match_some}
use Rattle.script_trim.proofs.GivenCuts.{given_fits, not_closing, not_defined}
use Rattle.script_trim.proofs.KeptClaims.{before_first, first_within}
use Rattle.script_trim.proofs.NodesKept.{kept_nodes}
use Rattle.script_trim.proofs.given_cuts.rest_by.Goals as goal

pub offset_bounds-nodes-node : goal.offset_bounds-nodes-node
offset_bounds-nodes-node g c =
    let above = g.O.TermOrder.above c.args.admitted.now.order in
    let spec = c.args.admitted.now.spec in
    let report = c.args.place.now.report.now in
    let number = c.args.place.now.number in
    let block = c.args.block.now in
    let fine : IsWellSorted c.args.admitted.now.spec = rw (← c.admitted.view_is) c.admitted.invariant.0 in
    let one : OneRelation (g.O.TermOrder.above c.args.admitted.now.order) = rw (← c.admitted.view_is)
    c.one_relation.ensures in
    omega (arith, c.requires.there, few_clauses above one spec fine report number block c.requires.kept)

pub bounds-nodes-node : goal.bounds-nodes-node
bounds-nodes-node g c =
    let above = g.O.TermOrder.above c.args.admitted.now.order in
    let spec = c.args.admitted.now.spec in
    let report = c.args.place.now.report.now in
    let number = c.args.place.now.number in
    let block = c.args.block.now in
    let fine : IsWellSorted c.args.admitted.now.spec = rw (← c.admitted.view_is) c.admitted.invariant.0 in
    let one : OneRelation (g.O.TermOrder.above c.args.admitted.now.order) = rw (← c.admitted.view_is)
    c.one_relation.ensures in
    let lt : c.args.node < length c.args.block.now.nodes.items = omega (
      arith,
      c.requires.there,
      long_nodes above one spec fine report number block c.requires.kept,
      length-map
          c.args.block.now.nodes.items (λ (n : Node). n.clause),
    ) in
    omega (arith, lt, ap length c.as_slice-nodes.ensures.value)

pub returns-then-not-branch : goal.returns-then-not-branch
returns-then-not-branch g c = λ kept others closes.
    let above = g.O.TermOrder.above c.args.admitted.now.order in
    let spec = c.args.admitted.now.spec in
    let report = c.args.place.now.report.now in
    let number = c.args.place.now.number in
    let block = c.args.block.now in
    let fine : IsWellSorted c.args.admitted.now.spec = rw (← c.admitted.view_is) c.admitted.invariant.0 in
    let one : OneRelation (g.O.TermOrder.above c.args.admitted.now.order) = rw (← c.admitted.view_is)
    c.one_relation.ensures in
    let lt : c.args.node < length c.args.block.now.nodes.items = omega (
      arith,
      c.requires.there,
      long_nodes above one spec fine report number block c.requires.kept,
      length-map
          c.args.block.now.nodes.items (λ (n : Node). n.clause),
    ) in
    let is = c.index-nodes-node.is ∙ ap (λ ns. get_or ns c.args.node c.index-nodes-node.result)
    c.as_slice-nodes.ensures.value in
    let at = there_mapped (λ (n : Node). n.clause) c.args.block.now.nodes.items c.args.node c.index-nodes-node.result
    (slice_get_read c.args.block.now.nodes.items (length c.args.block.now.nodes.items) c.args.node
    c.index-nodes-node.result refl lt is) in
    let spec_is : c.admitted.inside.spec ≡ c.args.admitted.now.spec = rw (← c.admitted.view_is) refl in
    let told = subst (λ (ns : List Node). IsTrue c.in_ok-is_closing.field-0 ↔ Contains
    (closing_steps spec (clauses_of ns) c.index-nodes-node.result.clause) c.args.step.now)
    c.as_slice-nodes.ensures.value (subst (λ (n : Node). IsTrue c.in_ok-is_closing.field-0 ↔ Contains
    (closing_steps spec (clauses_of c.as_slice-nodes.result.now) n.clause) c.args.step.now)
    (sym c.index-nodes-node.is) (subst (λ (s : Spec). IsTrue c.in_ok-is_closing.field-0 ↔ Contains
    (closing_steps s (clauses_of c.as_slice-nodes.result.now)
    (get_or c.as_slice-nodes.result.now c.args.node c.index-nodes-node.result).clause) c.args.step.now) spec_is
    c.in_ok-is_closing.ensures)) in
    let e : c.in_ok-is_closing.field-0 ≡ false = search rules in
    not_closing above one spec fine report number block kept c.args.node c.index-nodes-node.result.clause at
    c.args.step.now (λ p. (let q : false ≡ true = sym e ∙ told.1 p in cc)) others closes

pub nodes_before-before-requires-clause-whole : goal.nodes_before-before-requires-clause-whole
nodes_before-before-requires-clause-whole g c =
    let above = g.O.TermOrder.above c.args.admitted.now.order in
    let spec = c.args.admitted.now.spec in
    let report = c.args.place.now.report.now in
    let number = c.args.place.now.number in
    let block = c.args.block.now in
    let fine : IsWellSorted c.args.admitted.now.spec = rw (← c.admitted.view_is) c.admitted.invariant.0 in
    let one : OneRelation (g.O.TermOrder.above c.args.admitted.now.order) = rw (← c.admitted.view_is)
    c.one_relation.ensures in
    subst IsWholeBlock (sym c.as_slice-links.ensures.value)
    (whole_linked above one spec fine report number block c.requires.kept)

pub nodes_before-before-requires-clause-there : goal.nodes_before-before-requires-clause-there
nodes_before-before-requires-clause-there g c =
    let above = g.O.TermOrder.above c.args.admitted.now.order in
    let spec = c.args.admitted.now.spec in
    let report = c.args.place.now.report.now in
    let number = c.args.place.now.number in
    let block = c.args.block.now in
    let fine : IsWellSorted c.args.admitted.now.spec = rw (← c.admitted.view_is) c.admitted.invariant.0 in
    let one : OneRelation (g.O.TermOrder.above c.args.admitted.now.order) = rw (← c.admitted.view_is)
    c.one_relation.ensures in
    omega (
      arith,
      ap length c.as_slice-links.ensures.value,
      long_links above one spec fine report number block
          c.requires.kept,
      c.requires.there,
    )

pub fit_of-requires-clause-nodes : goal.fit_of-requires-clause-nodes
fit_of-requires-clause-nodes g c =
    let above = g.O.TermOrder.above c.args.admitted.now.order in
    let spec = c.args.admitted.now.spec in
    let report = c.args.place.now.report.now in
    let number = c.args.place.now.number in
    let block = c.args.block.now in
    let fine : IsWellSorted c.args.admitted.now.spec = rw (← c.admitted.view_is) c.admitted.invariant.0 in
    let one : OneRelation (g.O.TermOrder.above c.args.admitted.now.order) = rw (← c.admitted.view_is)
    c.one_relation.ensures in
    let keep : ChildrenAreSorted (g.O.TermOrder.above c.args.admitted.now.order) = rw (← c.admitted.view_is)
    c.children_are_sorted.ensures in
    subst (λ ns. AreNodes c.args.admitted.now.spec.sig (clauses_of ns)) (sym c.as_slice-nodes.ensures.value)
    (kept_nodes above keep spec fine c.args.place.now.lemmas.now.numbers.items one c.tidying_laws.ensures report number
    block c.requires.kept c.requires.placed.proved)

pub fit_of-requires-clause-node : goal.fit_of-requires-clause-node
fit_of-requires-clause-node g c =
    let above = g.O.TermOrder.above c.args.admitted.now.order in
    let spec = c.args.admitted.now.spec in
    let report = c.args.place.now.report.now in
    let number = c.args.place.now.number in
    let block = c.args.block.now in
    let fine : IsWellSorted c.args.admitted.now.spec = rw (← c.admitted.view_is) c.admitted.invariant.0 in
    let one : OneRelation (g.O.TermOrder.above c.args.admitted.now.order) = rw (← c.admitted.view_is)
    c.one_relation.ensures in
    let within : c.args.node < length c.args.block.now.links.items = omega
    (arith, long_links above one spec fine report number block c.requires.kept, c.requires.there) in
    let first : c.nodes_before-before.result ≡ first_child c.args.block.now.links.items c.args.node =
    c.nodes_before-before.ensures ∙ ap (λ ls. first_child ls c.args.node) c.as_slice-links.ensures.value in
    omega (arith, first, before_first above one spec fine report number block c.requires.kept c.args.node within)

pub fit_of-requires-clause-before : goal.fit_of-requires-clause-before
fit_of-requires-clause-before g c =
    let above = g.O.TermOrder.above c.args.admitted.now.order in
    let spec = c.args.admitted.now.spec in
    let report = c.args.place.now.report.now in
    let number = c.args.place.now.number in
    let block = c.args.block.now in
    let fine : IsWellSorted c.args.admitted.now.spec = rw (← c.admitted.view_is) c.admitted.invariant.0 in
    let one : OneRelation (g.O.TermOrder.above c.args.admitted.now.order) = rw (← c.admitted.view_is)
    c.one_relation.ensures in
    let within : c.args.node < length c.args.block.now.links.items = omega
    (arith, long_links above one spec fine report number block c.requires.kept, c.requires.there) in
    let first : c.nodes_before-before.result ≡ first_child c.args.block.now.links.items c.args.node =
    c.nodes_before-before.ensures ∙ ap (λ ls. first_child ls c.args.node) c.as_slice-links.ensures.value in
    omega (
      arith,
      first,
      ap length c.as_slice-nodes.ensures.value,
      first_within above one spec fine report number block
          c.requires.kept c.args.node within,
    )

pub rest_of-requires-clause-fits : goal.rest_of-requires-clause-fits
rest_of-requires-clause-fits g c = λ kept.
    let above = g.O.TermOrder.above c.args.admitted.now.order in
    let spec = c.args.admitted.now.spec in
    let report = c.args.place.now.report.now in
    let number = c.args.place.now.number in
    let block = c.args.block.now in
    let fine : IsWellSorted c.args.admitted.now.spec = rw (← c.admitted.view_is) c.admitted.invariant.0 in
    let one : OneRelation (g.O.TermOrder.above c.args.admitted.now.order) = rw (← c.admitted.view_is)
    c.one_relation.ensures in
    let lt : c.args.node < length c.args.block.now.nodes.items = omega (
      arith,
      c.requires.there,
      long_nodes above one spec fine report number block c.requires.kept,
      length-map
          c.args.block.now.nodes.items (λ (n : Node). n.clause),
    ) in
    let is = c.index-nodes-node.is ∙ ap (λ ns. get_or ns c.args.node c.index-nodes-node.result)
    c.as_slice-nodes.ensures.value in
    let at = there_mapped (λ (n : Node). n.clause) c.args.block.now.nodes.items c.args.node c.index-nodes-node.result
    (slice_get_read c.args.block.now.nodes.items (length c.args.block.now.nodes.items) c.args.node
    c.index-nodes-node.result refl lt is) in
    let spec_is : c.admitted.inside.spec ≡ c.args.admitted.now.spec = rw (← c.admitted.view_is) refl in
    let told = subst (λ (ns : List Node). IsTrue c.in_ok-is_closing.field-0 ↔ Contains
    (closing_steps spec (clauses_of ns) c.index-nodes-node.result.clause) c.args.step.now)
    c.as_slice-nodes.ensures.value (subst (λ (n : Node). IsTrue c.in_ok-is_closing.field-0 ↔ Contains
    (closing_steps spec (clauses_of c.as_slice-nodes.result.now) n.clause) c.args.step.now)
    (sym c.index-nodes-node.is) (subst (λ (s : Spec). IsTrue c.in_ok-is_closing.field-0 ↔ Contains
    (closing_steps s (clauses_of c.as_slice-nodes.result.now)
    (get_or c.as_slice-nodes.result.now c.args.node c.index-nodes-node.result).clause) c.args.step.now) spec_is
    c.in_ok-is_closing.ensures)) in
    let within : c.args.node < length c.args.block.now.links.items = omega
    (arith, long_links above one spec fine report number block c.requires.kept, c.requires.there) in
    let first : c.nodes_before-before.result ≡ first_child c.args.block.now.links.items c.args.node =
    c.nodes_before-before.ensures ∙ ap (λ ls. first_child ls c.args.node) c.as_slice-links.ensures.value in
    let e : c.in_ok-is_closing.field-0 ≡ true = search rules in
    let found = match_some c.in_ok-fit.field-0 c.in-Some.fit _ _ c.in-Some.is c.in_ok-fit.ensures in
    let makes = subst (λ (ns : List Node). StepMakes above spec (Contains c.args.place.now.lemmas.now.numbers.items)
    (take c.nodes_before-before.result (clauses_of ns)) c.args.node c.args.step.now c.in-Some.fit.made)
    c.as_slice-nodes.ensures.value found.1 in
    given_fits above one spec fine report number block kept c.args.node c.index-nodes-node.result.clause at
    c.args.step.now within c.args.place.now.lemmas.now.numbers.items c.requires.placed.proved
    c.nodes_before-before.result first (told.0 e) c.in-Some.fit found.0 makes

pub returns-in-Some : goal.returns-in-Some
returns-in-Some g c =
    let above = g.O.TermOrder.above c.args.admitted.now.order in
    let spec = c.args.admitted.now.spec in
    let report = c.args.place.now.report.now in
    let number = c.args.place.now.number in
    let block = c.args.block.now in
    let found = match_some c.in_ok-fit.field-0 c.in-Some.fit _ _ c.in-Some.is c.in_ok-fit.ensures in
    subst (λ (s : Step). IfOk c.rest_of.result
    (λ rest. (kept : IsKept above spec report number block) → MatchOption rest
    ((others : List Step) → ClosesAt above spec report number block kept c.args.node s others → ⊥)
    (λ steps. ClosesAt above spec report number block kept c.args.node s steps.items))) found.0 c.rest_of.ensures

pub returns-in-None : goal.returns-in-None
returns-in-None g c = λ kept others closes.
    let above = g.O.TermOrder.above c.args.admitted.now.order in
    let spec = c.args.admitted.now.spec in
    let report = c.args.place.now.report.now in
    let number = c.args.place.now.number in
    let block = c.args.block.now in
    let fine : IsWellSorted c.args.admitted.now.spec = rw (← c.admitted.view_is) c.admitted.invariant.0 in
    let one : OneRelation (g.O.TermOrder.above c.args.admitted.now.order) = rw (← c.admitted.view_is)
    c.one_relation.ensures in
    let lt : c.args.node < length c.args.block.now.nodes.items = omega (
      arith,
      c.requires.there,
      long_nodes above one spec fine report number block c.requires.kept,
      length-map
          c.args.block.now.nodes.items (λ (n : Node). n.clause),
    ) in
    let is = c.index-nodes-node.is ∙ ap (λ ns. get_or ns c.args.node c.index-nodes-node.result)
    c.as_slice-nodes.ensures.value in
    let at = there_mapped (λ (n : Node). n.clause) c.args.block.now.nodes.items c.args.node c.index-nodes-node.result
    (slice_get_read c.args.block.now.nodes.items (length c.args.block.now.nodes.items) c.args.node
    c.index-nodes-node.result refl lt is) in
    let within : c.args.node < length c.args.block.now.links.items = omega
    (arith, long_links above one spec fine report number block c.requires.kept, c.requires.there) in
    let first : c.nodes_before-before.result ≡ first_child c.args.block.now.links.items c.args.node =
    c.nodes_before-before.ensures ∙ ap (λ ls. first_child ls c.args.node) c.as_slice-links.ensures.value in
    let none = match_none c.in_ok-fit.field-0 _ _ c.in-None.is c.in_ok-fit.ensures in
    not_defined above one spec fine report number block kept c.args.node c.index-nodes-node.result.clause at
    c.args.step.now within c.args.place.now.lemmas.now.numbers.items c.requires.placed.proved
    c.nodes_before-before.result first (λ m p. none m
    (subst (λ (ns : List Node). StepMakes above spec (Contains c.args.place.now.lemmas.now.numbers.items)
    (take c.nodes_before-before.result (clauses_of ns)) c.args.node c.args.step.now m)
    (sym c.as_slice-nodes.ensures.value) p)) others closes
