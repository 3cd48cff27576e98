use Rattle.std.proofs.Common.{arith}
use Rattle.std.proofs.lemmas.List.{length-map}
use Rattle.inference_rules.specs.declared.nodes.Node.{Node}
use Rattle.inference_rules.specs.Answers.{clauses_of}
use Rattle.script_trim.specs.Closing.{subsume_each}
use Rattle.script_trim.proofs.Adding.{adds_none, adds_all}
use Rattle.script_trim.proofs.AloneNodes.{alone_adds_none}
use Rattle.script_trim.proofs.Passing.{as_many_keys, skip_node, take_node}
use Rattle.script_trim.proofs.Unfit.{each_long}
use Rattle.script_trim.proofs.fitting.try_nodes.Goals as goal

pub try_node-requires-clause-there : goal.try_node-requires-clause-there
try_node-requires-clause-there g c =
    let nodes = c.args.spot.now.nodes.now in
    omega (
      arith,
      c.loop-number-test.true,
      as_many_keys c.args.keys.now (clauses_of nodes) c.requires.keys,
      length-map nodes (λ (n : Node). n.clause),
    )

pub returns-then-spot : goal.returns-then-spot
returns-then-spot g c =
    alone_adds_none (g.O.TermOrder.above c.args.order.now) c.one_relation.ensures c.args.spot.now c.requires.spot
    c.if-spot.true c.args.fits.now.items

pub loop-number-init : goal.loop-number-init
loop-number-init g c = adds_none (g.O.TermOrder.above c.args.order.now) c.args.spot.now c.args.fits.now.items

pub loop-number-preserved : goal.loop-number-preserved
loop-number-preserved g c =
    take_node (g.O.TermOrder.above c.args.order.now) c.args.spot.now c.loop-number.number c.args.fits.now.items
    c.loop-number.fits.items _
    (omega (
      arith,
      c.loop-number-test.true,
      as_many_keys c.args.keys.now (clauses_of c.args.spot.now.nodes.now)
          c.requires.keys,
    ))
    c.loop-number.invariant c.in_ok-try_node.ensures

pub loop-number-preserved-then-not-may_close : goal.loop-number-preserved-then-not-may_close
loop-number-preserved-then-not-may_close g c =
    skip_node (g.O.TermOrder.above c.args.order.now) c.args.spot.now c.requires.spot c.args.wanted.now
    c.requires.wanted c.args.keys.now c.loop-number.number
    _ c.may_close.result c.args.fits.now.items c.loop-number.fits.items c.requires.keys c.loop-number-test.true
    c.may_close.ensures c.if-not-may_close.true c.loop-number.invariant

pub returns : goal.returns
returns g c =
    let nodes = clauses_of c.args.spot.now.nodes.now in
    adds_all (g.O.TermOrder.above c.args.order.now) c.args.spot.now (subsume_each 0 nodes) c.loop-number.number
    c.args.fits.now.items c.loop-number.fits.items
    (omega (arith, c.loop-number-test.false, as_many_keys c.args.keys.now nodes c.requires.keys, each_long 0 nodes))
    c.loop-number.invariant
