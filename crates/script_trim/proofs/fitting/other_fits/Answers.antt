use Rattle.std.proofs.Common.{◌∙◌}
use Rattle.std.specs.Prelude.{Contains}
use Rattle.term_core.proofs.Items.{if_ok_map}
use Rattle.inference_rules.specs.Answers.{clauses_of}
use Rattle.script_trim.specs.Fitting.{other_steps, AreFitting}
use Rattle.script_trim.specs.Trying.{AreFits}
use Rattle.script_trim.proofs.Passing.{fits_in_block, first_alone, first_nodes, first_keys}
use Rattle.script_trim.proofs.fitting.other_fits.Goals as goal

pub new-spot-requires-clause-nodes : goal.new-spot-requires-clause-nodes
new-spot-requires-clause-nodes g c =
    first_nodes c.admitted.inside.spec.sig c.args.block_nodes.now c.args.at.before
    (rw (← c.admitted.view_is) at c.requires.nodes)

pub new-spot-requires-clause-alone : goal.new-spot-requires-clause-alone
new-spot-requires-clause-alone g c = λ lone.
    first_alone c.args.block_nodes.now c.args.at.before c.args.at.number (c.requires.alone lone)

pub try_clauses-requires-clause-keys : goal.try_clauses-requires-clause-keys
try_clauses-requires-clause-keys g c =
    first_keys c.args.keys.now c.args.block_nodes.now c.new-spot.result.nodes.now c.args.at.before c.requires.keys
    c.new-spot.ensures.nodes

pub returns : goal.returns
returns g c =
    let above = g.O.TermOrder.above c.admitted.inside.order in
    let spec = c.admitted.inside.spec in
    let numbers = c.args.lemmas.now.numbers.items in
    let nodes = c.args.block_nodes.now in
    rw (← c.admitted.view_is)
    (if_ok_map c.try_clauses.result (λ fits. AreFits above c.new-spot.result other_steps fits.items)
    (λ fits. AreFitting above spec (Contains numbers) other_steps (clauses_of nodes) c.args.at.before c.args.at.number
    fits.items)
    (λ fits h. fits_in_block other_steps above c.new-spot.result spec numbers nodes c.args.at.before c.args.at.number
    fits.items
    c.new-spot.ensures.is c.new-spot.ensures.spec (c.new-spot.ensures.proved ∙ c.as_slice-proved.ensures.value)
    c.new-spot.ensures.nodes c.new-spot.ensures.number c.requires.before c.requires.node h)
    c.try_clauses.ensures)
