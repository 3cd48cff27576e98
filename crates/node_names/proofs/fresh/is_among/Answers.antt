use Rattle.node_names.proofs.Among.{is_place}
use Rattle.node_names.proofs.fresh.is_among.Goals as goal

pub returns : goal.returns
returns c =
    is_place c.args.name.now c.args.names.now c.is_some.result c.place_of.result
    c.is_some.ensures c.place_of.ensures
