use Rattle.std.proofs.Common.{◌≡◌, ◌+◌, ◌-◌, ◌<◌, ◌≤◌, Bool, length, true, false, None, sym, subst, arith}
use Rattle.std.specs.Prelude.{is_some}
use Rattle.term_core.specs.Tree.{Tree}
use Rattle.clause_core.specs.Places.{side}
use Rattle.clause_places.specs.Spots.{spots, spot_of_index}
use Rattle.fitting_lists.specs.Spines.{spine_of, missing_in}
use Rattle.routine_proof.specs.Candidates.{Gives}
use Rattle.proof_search.specs.Falling.{SideFits}
use Rattle.proof_search.specs.FallingSides.{marked}
use Rattle.proof_search.specs.Referring.{target_of, rewritings_at}
use Rattle.proof_search.specs.Taking.{SaysAt}
use Rattle.proof_search.proofs.FallingSteps.{none_rewrites}
use Rattle.proof_search.proofs.PermutedSteps.{first_by_sides}
use Rattle.proof_search.proofs.SpotsThere.{spot_listed, spot_there, spots_past}
use Rattle.proof_search.proofs.Tests.{not_true}
use Rattle.proof_search.proofs.UnfitSides.{none_fits, unfit_later}
use Rattle.proof_search.proofs.Walking.{Passed, found_at, passed_at, skipped_at, skipped_all, none_found}
use Rattle.proof_search.proofs.rewriting.first_rewriting.Goals as goal

pub returns-in_default : goal.returns-in_default
returns-in_default g c =
    none_rewrites (Gives (SaysAt (g.O.TermOrder.above c.args.order.now) c.args.at.now))
    c.args.at.now.here.now (target_of c.args.referral.now) c.args.clause.now c.in_default.ensures

pub rewriting_at-requires-clause-able : goal.rewriting_at-requires-clause-able
rewriting_at-requires-clause-able g c = record {
  sorted = c.requires.sorted;
  referred = c.requires.referred;
  alone = c.in-Some.ensures;
  falling = c.requires.falling;
  spines = c.of.ensures;
}

pub rewriting_at-requires-clause-there : goal.rewriting_at-requires-clause-there
rewriting_at-requires-clause-there g c =
    let at = c.args.at.now in
    let lt : c.spots.index < length at.spots =
    omega (arith, c.spots-test.true, c.len.ensures) in
    spot_there at c.requires.at.spots c.spots.index c.places_are_there.ensures lt

pub returns-then-is_some : goal.returns-then-is_some
returns-then-is_some g c =
    let above = g.O.TermOrder.above c.args.order.now in
    let at = c.args.at.now in
    let k = c.spots.index in
    let found = c.in_ok-found.found in
    let spot = spot_of_index at.spots k in
    let lt : k < length at.spots = omega (arith, c.spots-test.true, c.len.ensures) in
    let d = c.args.clause.now in
    let target = target_of c.args.referral.now in
    let first = first_by_sides above d c.args.sides c.in-Some.equation.now c.in-Some.ensures at
    c.requires.at c.requires.sorted target c.requires.falling c.place_decides.ensures
    c.never_rises.ensures c.requires.referred spot found c.in_ok-found.ensures in
    let there : is_some found ≡ true = cc (c.is_some.ensures, c.if-is_some.true) in
    found_at (Gives (SaysAt above at)) (spots at.here.now) (rewritings_at target d) k spot found
    (spot_listed at c.requires.at.spots k lt) c.spots.invariant there first

pub spots-preserved-then-missing-gt0 : goal.spots-preserved-then-missing-gt0
spots-preserved-then-missing-gt0 g c =
    let above = g.O.TermOrder.above c.args.order.now in
    let at = c.args.at.now in
    let says = SaysAt above at in
    let k = c.spots.index in
    let next = c.saturating_add-index.result in
    let missing = c.missing-missing.result in
    let spot = spot_of_index at.spots k in
    let lt : k < length at.spots = omega (arith, c.spots-test.true, c.len.ensures) in
    let d = c.args.clause.now in
    let e = c.in-Some.equation.now in
    let sides = c.args.sides in
    let target = target_of c.args.referral.now in
    let told : (left : Bool) → marked left sides ≡ true →
    missing ≤ missing_in (spine_of (side left e)) spot.term =
    λ left is. subst (λ t. missing ≤ missing_in (spine_of (side left e)) t) c.term-term.ensures
    (c.missing-missing.ensures left is) in
    let passed : k + (next - k) ≡ next = omega (arith, c.saturating_add-index.ensures, lt) in
    subst (Passed (Gives says) (spots at.here.now) (rewritings_at target d)) passed
    (skipped_all (Gives says) (spots at.here.now) (rewritings_at target d) k (next - k)
    c.spots.invariant
    (λ m r le before there.
    first_by_sides above d sides e c.in-Some.ensures at c.requires.at c.requires.sorted target
    c.requires.falling c.place_decides.ensures c.never_rises.ensures c.requires.referred r None
    (none_fits says target d r.place r.term e sides
    (unfit_later c.nothing_is_missing.ensures at.here.now e sides k missing spot
    (spot_listed at c.requires.at.spots k lt) told m r le
    (omega (arith, before, c.saturating_add-index.ensures)) there))))

pub spots-preserved-then-not-may_fit : goal.spots-preserved-then-not-may_fit
spots-preserved-then-not-may_fit g c =
    let above = g.O.TermOrder.above c.args.order.now in
    let at = c.args.at.now in
    let says = SaysAt above at in
    let k = c.spots.index in
    let spot = spot_of_index at.spots k in
    let lt : k < length at.spots = omega (arith, c.spots-test.true, c.len.ensures) in
    let d = c.args.clause.now in
    let e = c.in-Some.equation.now in
    let sides = c.args.sides in
    let target = target_of c.args.referral.now in
    let unfit : SideFits sides e spot.term → ⊥ = λ fits.
    not_true c.may_fit.result c.if-not-may_fit.true
    (c.may_fit.ensures
    (subst (λ (t : Tree). SideFits sides e t) (sym c.term-term.ensures) fits)) in
    let first = first_by_sides above d sides e c.in-Some.ensures at c.requires.at c.requires.sorted
    target c.requires.falling c.place_decides.ensures c.never_rises.ensures c.requires.referred
    spot None
    (none_fits says target d spot.place spot.term e sides unfit) in
    skipped_at (Gives says) (spots at.here.now) (rewritings_at target d) k spot
    (spot_listed at c.requires.at.spots k lt) c.spots.invariant first

pub spots-preserved : goal.spots-preserved
spots-preserved g c =
    let above = g.O.TermOrder.above c.args.order.now in
    let at = c.args.at.now in
    let k = c.spots.index in
    let found = c.in_ok-found.found in
    let spot = spot_of_index at.spots k in
    let lt : k < length at.spots = omega (arith, c.spots-test.true, c.len.ensures) in
    let d = c.args.clause.now in
    let target = target_of c.args.referral.now in
    let first = first_by_sides above d c.args.sides c.in-Some.equation.now c.in-Some.ensures at
    c.requires.at c.requires.sorted target c.requires.falling c.place_decides.ensures
    c.never_rises.ensures c.requires.referred spot found c.in_ok-found.ensures in
    let there : is_some found ≡ false = cc (c.is_some.ensures, c.if-is_some.false) in
    passed_at (Gives (SaysAt above at)) (spots at.here.now) (rewritings_at target d) k spot found
    (spot_listed at c.requires.at.spots k lt) c.spots.invariant there first

pub returns : goal.returns
returns g c =
    let at = c.args.at.now in
    let k = c.spots.index in
    none_found (Gives (SaysAt (g.O.TermOrder.above c.args.order.now) at)) (spots at.here.now)
    (rewritings_at (target_of c.args.referral.now) c.args.clause.now) k
    (spots_past at c.requires.at.spots k
    (omega (arith, c.spots-test.false, c.len.ensures)))
    c.spots.invariant
