use Rattle.std.proofs.Common.{Some, refl}
use Rattle.rule_code.proofs.Parts.{set_puts}
use Rattle.rule_code.proofs.growing.put.Goals as goal

pub returns : goal.returns
returns c = set_puts c.args.nodes.now.items c.args.at c.index_mut-node.result.now
    (record { rules = c.index_mut-node.result.now.rules; split = Some c.args.split }) c.args.split c.requires
    c.index_mut-node.ensures.value refl refl
