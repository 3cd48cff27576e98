use Rattle.std.proofs.Common.{◌≡◌, true, false, get_or}
use Rattle.std.specs.Prelude.{is_some}
use Rattle.routine_proof.specs.Candidates.{Gives}
use Rattle.proof_search.specs.Taking.{SaysAt}
use Rattle.proof_search.proofs.Walking.{found_at, passed_at, none_found}
use Rattle.std.proofs.Common.{◌<◌, arith}
use Rattle.std.proofs.lemmas.Option.{slice_get-get_or}
use Rattle.proof_search.specs.declared.choosing.Entry.TheVariants.{Trivials}
use Rattle.proof_search.specs.Chosen.{all_entries, candidates_of}
use Rattle.proof_search.proofs.choosing.first_entry.Goals as goal

pub returns-then-is_some : goal.returns-then-is_some
returns-then-is_some g c =
    let says = SaysAt (g.O.TermOrder.above c.args.order.now) c.args.at.now in
    let k = c.loop-entry.entry-index in
    let found = c.in_ok-found.found in
    let lt : k < 14 = omega (arith, c.loop-entry-test.true) in
    let entry = get_or all_entries k Trivials in
    let there : is_some found ≡ true = cc (c.is_some.ensures, c.if-is_some.true) in
    found_at (Gives says) all_entries (candidates_of c.args.at.now) k entry found
    (slice_get-get_or all_entries k Trivials lt) c.loop-entry.invariant there
    c.in_ok-found.ensures

pub loop-entry-preserved : goal.loop-entry-preserved
loop-entry-preserved g c =
    let says = SaysAt (g.O.TermOrder.above c.args.order.now) c.args.at.now in
    let k = c.loop-entry.entry-index in
    let found = c.in_ok-found.found in
    let lt : k < 14 = omega (arith, c.loop-entry-test.true) in
    let entry = get_or all_entries k Trivials in
    let there : is_some found ≡ false = cc (c.is_some.ensures, c.if-is_some.false) in
    passed_at (Gives says) all_entries (candidates_of c.args.at.now) k entry found
    (slice_get-get_or all_entries k Trivials lt) c.loop-entry.invariant there
    c.in_ok-found.ensures

pub returns : goal.returns
returns g c =
    let says = SaysAt (g.O.TermOrder.above c.args.order.now) c.args.at.now in
    let k = c.loop-entry.entry-index in
    none_found (Gives says) all_entries (candidates_of c.args.at.now) k
    (omega (arith, c.loop-entry-test.false)) c.loop-entry.invariant
