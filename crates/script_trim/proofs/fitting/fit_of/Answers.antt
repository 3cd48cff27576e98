use Rattle.std.proofs.Common.{◌∙◌, subst}
use Rattle.script_trim.specs.Trying.{IsTried}
use Rattle.script_trim.proofs.GivenCuts.{made_there}
use Rattle.script_trim.proofs.Passing.{first_nodes}
use Rattle.script_trim.proofs.fitting.fit_of.Goals as goal

pub new-spot-requires-clause-nodes : goal.new-spot-requires-clause-nodes
new-spot-requires-clause-nodes g c =
    first_nodes c.admitted.inside.spec.sig c.args.block_nodes.now c.args.at.before
    (rw (← c.admitted.view_is) at c.requires.nodes)

pub returns-in_ok-step-in-Some : goal.returns-in_ok-step-in-Some
returns-in_ok-step-in-Some g c =
    let above = g.O.TermOrder.above c.admitted.inside.order in
    let tried = subst (IsTried above c.new-spot.result c.args.step.now) c.in-Some.is c.in_ok-made.ensures in
    rw (← c.admitted.view_is) (
      c.in_ok-step-in-Some.ensures,
      (made_there above c.new-spot.result c.admitted.inside.spec c.args.lemmas.now.numbers.items
          c.args.block_nodes.now c.args.at.before c.args.at.number c.args.step.now c.in-Some.made
          c.new-spot.ensures.spec
          (c.new-spot.ensures.proved ∙ c.as_slice-proved.ensures.value) c.new-spot.ensures.nodes
          c.new-spot.ensures.number).0 tried,
    )

pub returns-in-None : goal.returns-in-None
returns-in-None g c =
    let above = g.O.TermOrder.above c.admitted.inside.order in
    let tried = subst (IsTried above c.new-spot.result c.args.step.now) c.in-None.is c.in_ok-made.ensures in
    rw (← c.admitted.view_is) (λ m p. tried m
    ((made_there above c.new-spot.result c.admitted.inside.spec c.args.lemmas.now.numbers.items
    c.args.block_nodes.now c.args.at.before c.args.at.number c.args.step.now m c.new-spot.ensures.spec
    (c.new-spot.ensures.proved ∙ c.as_slice-proved.ensures.value) c.new-spot.ensures.nodes
    c.new-spot.ensures.number).1 p))
