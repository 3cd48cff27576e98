use Rattle.std.proofs.Common.{Option, subst}
use Rattle.clause_core.specs.declared.answers.Children.{Children}
use Rattle.script_trim.specs.Trying.{IsTried}
use Rattle.script_trim.proofs.Adding.{adds_fit, adds_nothing}
use Rattle.script_trim.proofs.fitting.try_step.Goals as goal

pub returns-in_ok-push-in-Some : goal.returns-in_ok-push-in-Some
returns-in_ok-push-in-Some g c =
    let above = g.O.TermOrder.above c.args.order.now in
    adds_fit above c.args.spot.now c.args.step c.in-Some.made c.args.fits.now.items c.push.new.self.items
    (subst (λ (o : Option Children). IsTried above c.args.spot.now c.args.step o) c.in-Some.is
    c.in_ok-found.ensures)
    c.in_ok-push-in-Some.ensures.items

pub returns-in-None : goal.returns-in-None
returns-in-None g c =
    let above = g.O.TermOrder.above c.args.order.now in
    adds_nothing above c.args.spot.now c.args.step c.args.fits.now.items
    (subst (λ (o : Option Children). IsTried above c.args.spot.now c.args.step o) c.in-None.is
    c.in_ok-found.ensures)
