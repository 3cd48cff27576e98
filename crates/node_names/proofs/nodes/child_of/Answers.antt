use Rattle.std.proofs.Common.{ℕ, List, subst, sym}
use Rattle.std.specs.Prelude.{Contains}
use Rattle.std.proofs.lemmas.List.Elements.{All-contains}
use Rattle.node_names.specs.declared.names.NodeNames.{NodeNames}
use Rattle.node_names.specs.Names.{AreNames}
use Rattle.node_names.proofs.nodes.child_of.Goals as goal

pub returns-clause-names : goal.returns-clause-names
returns-clause-names c =
    let spec = c.args.setting.now.spec.now in
    let goal = c.args.setting.now.goal.now in
    let there : Contains c.args.before.now c.in_ok-names.names.now = c.in_ok-names.ensures in
    subst (λ (ns : List (List ℕ)). AreNames spec goal ns) (sym c.as_slice.ensures)
    (All-contains (λ (n : NodeNames). AreNames spec goal n.variables) c.args.before.now
    c.in_ok-names.names.now c.requires there)
