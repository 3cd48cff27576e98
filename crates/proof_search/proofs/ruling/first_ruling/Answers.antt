use Rattle.std.proofs.Common.{◌≡◌, ◌<◌, List, Option, None, true, false, sym, ◌∙◌, subst, arith, length}
use Rattle.std.specs.Prelude.{is_some}
use Rattle.clause_core.specs.declared.clauses.Clause.{Clause}
use Rattle.clause_core.specs.RuleInstances.{IsInstance}
use Rattle.clause_core.specs.declared.steps.Place.{Place}
use Rattle.clause_places.specs.Spots.{Spot, spots, spot_of_index}
use Rattle.spec_core.specs.declared.records.Spec.{Spec}
use Rattle.routine_proof.specs.Candidates.{Candidate, Gives, each}
use Rattle.routine_proof.specs.Entries.{rules}
use Rattle.routine_proof.specs.First.{IsFirst}
use Rattle.proof_search.specs.declared.ruling.ByRule.{ByRule}
use Rattle.proof_search.specs.Ruling.{rulings_by, rulings}
use Rattle.proof_search.specs.Taking.{SaysAt, place_of}
use Rattle.proof_search.proofs.OtherRules.{none_where_unfit}
use Rattle.proof_search.proofs.SpotsThere.{spot_listed, spot_there, spots_past}
use Rattle.proof_search.proofs.Tests.{not_true}
use Rattle.proof_search.proofs.Walking.{found_at, passed_at, skipped_at, none_found, each_mapped}
use Rattle.proof_search.proofs.ruling.first_ruling.Goals as goal

by_spots : {R : Type 0} (is : Candidate → R → Type 0) (entry : ByRule) (spec : Spec) (c : Clause)
    (found : Option R) →
    IsFirst is (each (spots c) (λ (s : Spot). rulings_by entry s.place (rules spec))) found →
    IsFirst is (rulings entry spec c) found
by_spots is entry spec c found first =
    subst (λ (cs : List Candidate). IsFirst is cs found)
    (sym (each_mapped (λ (p : Place). rulings_by entry p (rules spec)) (λ (s : Spot). s.place)
    (spots c))) first

pub ruling_at-requires-clause-there : goal.ruling_at-requires-clause-there
ruling_at-requires-clause-there g c =
    let lt : c.loop-index.index < length c.args.at.now.spots =
    omega (arith, c.loop-index-test.true, c.len-index-end.ensures) in
    spot_there c.args.at.now c.requires.spots c.loop-index.index c.places_are_there.ensures lt

pub returns-then-is_some : goal.returns-then-is_some
returns-then-is_some g c =
    let at = c.args.at.now in
    let says = SaysAt (g.O.TermOrder.above c.args.order.now) at in
    let spec = at.setting.now.spec.now in
    let k = c.loop-index.index in
    let found = c.in_ok-found.found in
    let lt : k < length at.spots = omega (arith, c.loop-index-test.true, c.len-index-end.ensures) in
    let there : is_some found ≡ true = cc (c.is_some.ensures, c.if-is_some.true) in
    by_spots (Gives says) c.args.entry spec at.here.now found
    (found_at (Gives says) (spots at.here.now)
    (λ (s : Spot). rulings_by c.args.entry s.place (rules spec)) k (spot_of_index at.spots k) found
    (spot_listed at c.requires.spots k lt) c.loop-index.invariant there c.in_ok-found.ensures)

pub loop-index-preserved : goal.loop-index-preserved
loop-index-preserved g c =
    let at = c.args.at.now in
    let says = SaysAt (g.O.TermOrder.above c.args.order.now) at in
    let spec = at.setting.now.spec.now in
    let k = c.loop-index.index in
    let found = c.in_ok-found.found in
    let lt : k < length at.spots = omega (arith, c.loop-index-test.true, c.len-index-end.ensures) in
    let there : is_some found ≡ false = cc (c.is_some.ensures, c.if-is_some.false) in
    passed_at (Gives says) (spots at.here.now)
    (λ (s : Spot). rulings_by c.args.entry s.place (rules spec)) k (spot_of_index at.spots k) found
    (spot_listed at c.requires.spots k lt) c.loop-index.invariant there c.in_ok-found.ensures

pub loop-index-preserved-then-not-some_rule_fits :
    goal.loop-index-preserved-then-not-some_rule_fits
loop-index-preserved-then-not-some_rule_fits g c =
    let at = c.args.at.now in
    let above = g.O.TermOrder.above c.args.order.now in
    let spec = at.setting.now.spec.now in
    let k = c.loop-index.index in
    let lt : k < length at.spots = omega (arith, c.loop-index-test.true, c.len-index-end.ensures) in
    let there = spot_there at c.requires.spots k c.places_are_there.ensures lt in
    let same = there.term ∙ sym c.term.ensures in
    skipped_at (Gives (SaysAt above at)) (spots at.here.now)
    (λ (s : Spot). rulings_by c.args.entry s.place (rules spec)) k (spot_of_index at.spots k)
    (spot_listed at c.requires.spots k lt) c.loop-index.invariant
    (none_where_unfit above at c.requires c.args.entry (place_of at k) there.place
    (λ n by fits.
    not_true c.some_rule_fits.result c.if-not-some_rule_fits.true
    (c.some_rule_fits.ensures n by (subst (λ t. IsInstance by.rule t) same fits)))
    (rules spec))

pub returns : goal.returns
returns g c =
    let at = c.args.at.now in
    let says = SaysAt (g.O.TermOrder.above c.args.order.now) at in
    let spec = at.setting.now.spec.now in
    let k = c.loop-index.index in
    by_spots (Gives says) c.args.entry spec at.here.now None
    (none_found (Gives says) (spots at.here.now)
    (λ (s : Spot). rulings_by c.args.entry s.place (rules spec)) k
    (spots_past at c.requires.spots k
    (omega (arith, c.loop-index-test.false, c.len-index-end.ensures)))
    c.loop-index.invariant)
