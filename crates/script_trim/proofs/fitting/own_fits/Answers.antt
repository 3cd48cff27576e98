use Rattle.std.proofs.Common.{◌∙◌}
use Rattle.std.specs.Prelude.{Contains}
use Rattle.term_core.proofs.Items.{if_ok_map}
use Rattle.inference_rules.specs.Answers.{clauses_of}
use Rattle.script_trim.specs.Fitting.{own_steps, AreFitting}
use Rattle.script_trim.specs.Trying.{AreFits}
use Rattle.script_trim.proofs.Passing.{fits_in_block, first_nodes}
use Rattle.script_trim.proofs.fitting.own_fits.Goals as goal

pub new-spot-requires-clause-nodes : goal.new-spot-requires-clause-nodes
new-spot-requires-clause-nodes g c =
    first_nodes c.admitted.inside.spec.sig c.args.block_nodes.now c.args.at.before
    (rw (← c.admitted.view_is) at c.requires.nodes)

pub returns : goal.returns
returns g c =
    let above = g.O.TermOrder.above c.admitted.inside.order in
    let spec = c.admitted.inside.spec in
    let numbers = c.args.lemmas.now.numbers.items in
    let nodes = c.args.block_nodes.now in
    rw (← c.admitted.view_is)
    (if_ok_map c.try_equations.result (λ fits. AreFits above c.new-spot.result own_steps fits.items)
    (λ fits. AreFitting above spec (Contains numbers) own_steps (clauses_of nodes) c.args.at.before c.args.at.number
    fits.items)
    (λ fits h. fits_in_block own_steps above c.new-spot.result spec numbers nodes c.args.at.before c.args.at.number
    fits.items
    c.new-spot.ensures.is c.new-spot.ensures.spec (c.new-spot.ensures.proved ∙ c.as_slice-proved.ensures.value)
    c.new-spot.ensures.nodes c.new-spot.ensures.number c.requires.before c.requires.node h)
    c.try_equations.ensures)
