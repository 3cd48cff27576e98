use Rattle.std.proofs.Common.{◌<◌, sym, subst, arith}
use Rattle.spec_grammar.specs.RawMeasure.{weight, list_weight}
use Rattle.sort_check.proofs.Walks.{args_fall}
use Rattle.sort_check.proofs.rules.+size.Goals as goal

pub size-size_all-requires : goal.size-size_all-requires
size-size_all-requires t c =
    let h : list_weight c.as_slice.result.now < weight c.args.raw.now = subst
    (λ xs. list_weight xs < weight c.args.raw.now) (sym c.as_slice.ensures)
    (args_fall c.raw.inside.args c.raw.inside.name c.raw.inside.at c.args.raw.now c.raw.view_is) in
    (omega (arith, h), tt)
