use Rattle.std.proofs.Common.{◌≡◌, Some, ℕ, refl, subst, sym}
use Rattle.std.specs.Prelude.{slice_get}
use Rattle.std.proofs.lemmas.Result.{on_ok_weaker}
use Rattle.page_core.specs.Pages.{after}
use Rattle.search_claims.specs.Deepening.{IsDeepened}
use Rattle.open_pages.specs.Deeper.{deeper_events}
use Rattle.open_pages.proofs.deeper.draw_deeper.Goals as goal

pub deepen-requires-clause-fine : goal.deepen-requires-clause-fine
deepen-requires-clause-fine g c = c.admitted.invariant.0

pub deepen-requires-clause-apart : goal.deepen-requires-clause-apart
deepen-requires-clause-apart g c = c.admitted.invariant.1.apart

pub deepen-requires-clause-whole : goal.deepen-requires-clause-whole
deepen-requires-clause-whole g c = c.admitted.invariant.1.whole

pub deepen-requires-clause-listed : goal.deepen-requires-clause-listed
deepen-requires-clause-listed g c =
    subst (λ a. (k : ℕ) × (slice_get a.spec.goals k ≡ Some c.args.goal.now)) (sym c.admitted.view_is) c.requires

pub returns : goal.returns
returns g c =
    let found = c.in_ok-found.found in
    let page = c.args.page.now in
    let drawn = c.draw_found.new.page in
    let is = subst (λ a. IsDeepened c.args.search a.spec c.args.goal.now found) c.admitted.view_is
    c.in_ok-found.ensures in
    on_ok_weaker c.draw_found.result
    (λ last. (
      deeper_events c.args.admitted.now.spec.sig found,
      (found, is, refl),
      subst (λ a. drawn ≡ after page (deeper_events a.spec.sig found)) c.admitted.view_is last,
    ))
    c.draw_found.ensures
