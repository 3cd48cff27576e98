use Rattle.std.proofs.Common.{◌∙◌, refl}
use Rattle.std.specs.Prelude.{length}
use Rattle.std.proofs.lemmas.Result.{on_ok_weaker}
use Rattle.report_pages.specs.Claims.{proved_note}
use Rattle.report_pages.proofs.Lists.{joined, left}
use Rattle.report_pages.proofs.claims.draw_proved.Goals as goal

pub returns : goal.returns
returns g c =
    let at = c.args.at.now in
    let note = c.in_ok-end.ensures ∙ left c.text.new.self c.draw_nodes.new.page _ _ c.in_ok-draw_nodes.ensures
    ∙ left c.begin.new.self c.text.new.self _ _ c.in_ok-text.ensures
    ∙ left c.args.page.now c.begin.new.self _ _ c.in_ok-begin.ensures in
    on_ok_weaker c.draw_proof.result
    (λ drawn before are.
    let proof = drawn at.goal.now c.requires.goal in (
      _,
      (at.proved.now, proof.0, are, proof.2, refl),
      joined c.args.page.now c.end.new.self c.draw_proof.new.page (proved_note (length c.args.steps.now)) proof.0 note
          proof.1,
    ))
    c.draw_proof.ensures
