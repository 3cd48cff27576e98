use Rattle.std.proofs.Common.{refl}
use Rattle.std.proofs.lemmas.Result.{on_ok_weaker}
use Rattle.page_core.specs.declared.parts.Part.TheVariants.{Value}
use Rattle.report_pages.specs.Refutations.{stated_events}
use Rattle.report_pages.proofs.Lists.{enclosed, joined}
use Rattle.report_pages.proofs.refuting.draw_equation.Goals as goal

pub returns : goal.returns
returns c =
    let at = c.args.at.now in
    let stated =
    stated_events at.spec.now.sig at.values.now c.args.conclusion c.args.number c.args.equation.now in
    let compared = c.in_ok-draw_sides.ensures in
    let first =
    enclosed Value c.args.page.now c.begin.new.self c.draw_stated.new.page c.end.new.self stated
    c.in_ok-begin.ensures c.in_ok-draw_stated.ensures c.in_ok-end.ensures in
    on_ok_weaker c.end-2.result
    (λ last. (
      _,
      (compared.0, compared.1, refl),
      joined c.args.page.now c.end.new.self c.end-2.new.self _ _ first
          (enclosed Value c.end.new.self c.begin-2.new.self c.draw_sides.new.page c.end-2.new.self compared.0
          c.in_ok-begin-2.ensures compared.2 last),
    ))
    c.end-2.ensures
