use Rattle.std.proofs.Common.{◌∙◌, ap, refl, set}
use Rattle.std.proofs.lemmas.List.{map-set}
use Rattle.inference_rules.specs.declared.nodes.Node.{Node}
use Rattle.inference_rules.specs.Answers.{clauses_of}
use Rattle.replay_check.proofs.KeptClauses.{one_goes}
use Rattle.replay_check.proofs.letting_go.let_node_go.Goals as goal

pub returns-then-lasts-node : goal.returns-then-lasts-node
returns-then-lasts-node c =
    one_goes c.args.lasts.now c.args.number c.args.node c.args.taken.now _ c.if-node-number.true c.if-lasts-node.true
    (map-set (λ (n : Node). n.clause) c.args.taken.now.nodes.items c.args.node
    (record { clause = c.clause_without_sides-clause.result })
    ∙ ap (λ d. set (clauses_of c.args.taken.now.nodes.items) c.args.node d) c.clause_without_sides-clause.ensures)
    refl
