use Rattle.std.proofs.Common.{arith, ◌<◌, length, sym, subst, refl}
use Rattle.std.proofs.lemmas.Option.{slice_get_read}
use Rattle.spec_core.specs.Sig.{Sig}
use Rattle.refuter.specs.Fewest.{IsRowOf, AreRowsOf}
use Rattle.refuter.proofs.Lowering.{row_for}
use Rattle.refuter.proofs.odometer.Odometer.sizes_at.Goals as goal

pub returns : goal.returns
returns c =
    let sig = c.self.inside.sig.now in
    let rows = c.as_slice-rows.result.now in
    let table : AreRowsOf sig rows = subst (λ xs. AreRowsOf sig xs) (sym c.as_slice-rows.ensures)
    c.self.invariant.rows in
    let within : c.min.result < length rows = omega (arith, c.min.ensures, table.some) in
    let at = slice_get_read rows (length rows) c.min.result c.index-rows-min.result refl within c.index-rows-min.is in
    let row = row_for sig c.self.invariant.in_range rows c.args.depth c.min.result c.index-rows-min.result table
    c.min.ensures at in
    subst (λ (g : Sig). IsRowOf g c.args.depth c.as_slice.result.now) c.self.view_is
    (subst (λ xs. IsRowOf sig c.args.depth xs) (sym c.as_slice.ensures) row)
