use Rattle.std.proofs.Common.{◌≡◌, ℕ, ◌<◌, Option, None, refl, arith, length, get_or}
use Rattle.std.specs.Prelude.{slice_get}
use Rattle.std.proofs.lemmas.Option.{slice_get_read, slice_get_past, slice_get_within}
use Rattle.clause_core.specs.declared.clauses.Clause.{Clause}
use Rattle.fitting_lists.specs.Leading.{IsPlace}
use Rattle.fitting_lists.specs.declared.leading_equations.LeadingPlace.{LeadingPlace}
use Rattle.inference_rules.specs.Answers.{clauses_of}
use Rattle.inference_rules.specs.declared.nodes.Node.{Node}
use Rattle.routine_proof.specs.declared.moves.Move.{Move}
use Rattle.routine_proof.specs.Candidates.{Gives}
use Rattle.proof_search.specs.declared.at.At.{At}
use Rattle.proof_search.specs.Chosen.{subsumptions_by}
use Rattle.proof_search.specs.Referring.{node as target, closings}
use Rattle.proof_search.specs.Taking.{IsAt, SaysAt, IsFound}
use Rattle.proof_search.proofs.LeadingPlaces.{place_at, places_long}
use Rattle.proof_search.proofs.Tests.{not_is}
use Rattle.proof_search.proofs.UnfitSpines.{none_closes}
use Rattle.proof_search.proofs.Walking.{item_at}
use Rattle.term_core.proofs.Items.{if_ok_map}
use Rattle.proof_search.proofs.ListedNodes.{clause_listed, clause_not_listed, none_listed, found_listed}
use Rattle.proof_search.proofs.referring.subsumption_by.Goals as goal

pub index-place-requires : goal.index-place-requires
index-place-requires g c =
    let b = c.args.at.now.building.now in
    let node = c.in-Some.node.now in
    let listed = item_at c.args.at.now.nodes.now b.block.nodes.items c.args.number node c.requires.own
    c.in-Some.ensures.lookup.3.0 c.in-Some.ensures.lookup.1 in
    omega (
      arith,
      slice_get_within b.block.nodes.items c.args.number node listed,
      places_long b.block.nodes.items b.leadings.items c.requires.whole.leadings,
      b.leadings.ok.0,
    )

-- the place that is read is that of the node's leading equation
node_place :
    (at : At) → IsAt at → (number : ℕ) (node : Node) (place : Option LeadingPlace) →
    number < length at.nodes.now → node ≡ get_or at.nodes.now number node →
    place ≡ get_or at.building.now.leadings.items number place → IsPlace node.clause place
node_place at is number node place lt read kept =
    let b = at.building.now in
    let listed = item_at at.nodes.now b.block.nodes.items number node is.own lt read in
    let within : number < length b.leadings.items =
    omega (
      arith,
      slice_get_within b.block.nodes.items number node listed,
      places_long b.block.nodes.items b.leadings.items is.whole.leadings,
    ) in
    place_at b.block.nodes.items b.leadings.items is.whole.leadings number node place listed
    (slice_get_read b.leadings.items (length b.leadings.items) number place refl within kept)

pub leading_at-first-requires : goal.leading_at-first-requires
leading_at-first-requires g c =
    node_place c.args.at.now c.requires c.args.number c.in-Some.node.now c.index-place.result.now
    c.in-Some.ensures.lookup.3.0 c.in-Some.ensures.lookup.1 c.index-place.ensures

pub returns-then-not-may_close : goal.returns-then-not-may_close
returns-then-not-may_close g c =
    let at = c.args.at.now in
    let says = SaysAt (g.O.TermOrder.above c.args.order.now) at in
    let node = c.in-Some.node.now in
    let place = c.index-place.result.now in
    found_listed (Gives says) (λ (d : Clause). closings at.here.now (target c.args.number) d)
    (slice_get (clauses_of at.nodes.now) c.args.number) node.clause None
    (clause_listed at.nodes.now c.args.number node
    (slice_get_read at.nodes.now (length at.nodes.now) c.args.number node refl
    c.in-Some.ensures.lookup.3.0 c.in-Some.ensures.lookup.1))
    (none_closes c.spines_may_become.ensures says (target c.args.number) node.clause at.here.now
    place
    (node_place at c.requires c.args.number node place c.in-Some.ensures.lookup.3.0
    c.in-Some.ensures.lookup.1 c.index-place.ensures)
    (not_is c.may_close.result _ c.if-not-may_close.true c.may_close.ensures))

pub first_closing-requires-clause-sorted : goal.first_closing-requires-clause-sorted
first_closing-requires-clause-sorted g c =
    (c.requires.nodes c.args.number _ (clause_listed c.args.at.now.nodes.now c.args.number
    c.in-Some.node.now (slice_get_read c.args.at.now.nodes.now
    (length c.args.at.now.nodes.now) c.args.number c.in-Some.node.now refl
    c.in-Some.ensures.lookup.3.0 c.in-Some.ensures.lookup.1))).sorted

pub returns-in-None : goal.returns-in-None
returns-in-None g c =
    let at = c.args.at.now in
    none_listed (Gives (SaysAt (g.O.TermOrder.above c.args.order.now) at))
    (λ (d : Clause). closings at.here.now (target c.args.number) d)
    (slice_get (clauses_of at.nodes.now) c.args.number)
    (clause_not_listed at.nodes.now c.args.number
    (slice_get_past at.nodes.now c.args.number c.in-None.ensures.lookup.3))

pub returns-else-not-may_close : goal.returns-else-not-may_close
returns-else-not-may_close g c =
    let at = c.args.at.now in
    let above = g.O.TermOrder.above c.args.order.now in
    if_ok_map c.first_closing.result (IsFound above at
    (closings at.here.now (target c.args.number) c.in-Some.node.now.clause))
    (IsFound above at (subsumptions_by at c.args.number))
    (λ (found : Option Move) first.
    found_listed (Gives (SaysAt above at)) (λ (d : Clause). closings at.here.now
    (target c.args.number) d)
    (slice_get (clauses_of at.nodes.now) c.args.number) c.in-Some.node.now.clause found
    (clause_listed at.nodes.now c.args.number c.in-Some.node.now
    (slice_get_read at.nodes.now (length at.nodes.now) c.args.number c.in-Some.node.now refl
    c.in-Some.ensures.lookup.3.0 c.in-Some.ensures.lookup.1)) first)
    c.first_closing.ensures
