use Rattle.replay_check.specs.Kept.{IsNeededBehind}
use Rattle.replay_check.proofs.KeptClauses.{both_go}
use Rattle.replay_check.proofs.letting_go.let_go.Goals as goal

pub returns-in-Some : goal.returns-in-Some
returns-in-Some c = both_go (IsNeededBehind c.args.lasts.now c.args.number) c.args.taken.now
    c.let_node_go.new.taken c.let_node_go-in-Some.new.taken c.let_node_go.ensures c.let_node_go-in-Some.ensures
