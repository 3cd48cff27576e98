use Rattle.std.proofs.Common.{◌≡◌, refl, sym, subst, length, arith}
use Rattle.std.specs.Prelude.{IfOk}
use Rattle.proof_search.specs.Starting.{IsNext, start_of}
use Rattle.proof_search.proofs.Starts.{covered_result}
use Rattle.proof_search.proofs.starting.next_move.Goals as goal

pub returns-then-node-eq0 : goal.returns-then-node-eq0
returns-then-node-eq0 g c =
    let next : c.len-node.result ≡ length c.args.building.now.steps.items =
    omega (arith, c.len-node.ensures, c.args.building.now.steps.ok.0) in
    let first : c.len-node.result ≡ 0 = omega (arith, c.if-node-eq0.true) in
    subst
    (λ s. IfOk c.covered.result (IsNext (g.O.TermOrder.above c.args.order.now)
    c.args.setting.now.spec.now c.args.setting.now.lemmas.now (start_of s) c.args.building.now))
    (sym c.in-Split.is)
    (covered_result (g.O.TermOrder.above c.args.order.now) c.args.setting.now.spec.now
    c.args.setting.now.lemmas.now c.args.building.now c.requires.whole c.args.building.now.block.nodes.items
    refl c.len-node.result next c.in-Split.variable.0 first
    c.covered.result c.covered.ensures)
