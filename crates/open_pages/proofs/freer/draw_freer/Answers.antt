use Rattle.std.proofs.Common.{refl}
use Rattle.std.proofs.lemmas.Result.{on_ok_weaker}
use Rattle.open_pages.specs.Freer.{freer_events}
use Rattle.open_pages.proofs.freer.draw_freer.Goals as goal

pub returns : goal.returns
returns g c =
    let found = c.in_ok-found.found in
    on_ok_weaker c.draw_found.result
    (λ last it is. (
      freer_events found,
      (found, c.in_ok-found.ensures.proof it is, refl),
      last,
    ))
    c.draw_found.ensures
