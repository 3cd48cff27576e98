use Rattle.spec_core.specs.Sig.{names_of}
use Rattle.node_names.proofs.Among.{is_symbol_place}
use Rattle.node_names.proofs.fresh.is_symbol.Goals as goal

pub returns : goal.returns
returns c =
    is_symbol_place c.args.name.now (names_of c.args.sig.now) c.is_some.result c.symbol.result
    c.is_some.ensures c.symbol.ensures
