use Rattle.std.proofs.Common.{◌++◌, refl}
use Rattle.std.proofs.lemmas.Option.{slice_get_within}
use Rattle.std.proofs.lemmas.Result.{on_ok_weaker}
use Rattle.report_pages.proofs.Lists.{joined}
use Rattle.open_pages.proofs.sections.draw_open.Goals as goal

pub draw_section-requires : goal.draw_section-requires
draw_section-requires g c =
    let at = c.args.at.now in
    record {
      in_range = slice_get_within c.args.admitted.now.spec.goals at.number at.goal.now c.requires.0;
    }

pub draw_deeper-requires : goal.draw_deeper-requires
draw_deeper-requires g c = (c.args.at.now.number, c.requires.0)

pub draw_freer-requires : goal.draw_freer-requires
draw_freer-requires g c =
    let at = c.args.at.now in
    slice_get_within c.args.admitted.now.spec.goals at.number at.goal.now c.requires.0

pub returns : goal.returns
returns g c =
    let at = c.args.at.now in
    let shown = c.in_ok-draw_section.ensures at.goal.now c.requires.0 in
    let deeper = c.in_ok-draw_deeper.ensures in
    let page = c.args.page.now in
    let both =
    joined page c.draw_section.new.page c.draw_deeper.new.page shown.0 deeper.0 shown.2 deeper.2 in
    on_ok_weaker c.draw_freer.result
    (λ drawn before are.
    let freer = drawn at.goal.now c.requires.0 in (
      (shown.0 ++ deeper.0) ++ freer.0,
      (
        at.number,
        at.goal.now,
        c.requires,
        (at.lemmas.now, shown.0, deeper.0, freer.0, are, shown.1, deeper.1, freer.1, refl),
      ),
      joined page c.draw_deeper.new.page c.draw_freer.new.page (shown.0 ++ deeper.0) freer.0 both freer.2,
    ))
    c.draw_freer.ensures
