use Rattle.std.proofs.Common.{◌≡◌, [], ◌∷◌, ap, subst, sym}
use Rattle.std.specs.Prelude.{slice_index}
use Rattle.term_core.proofs.Items.{if_ok_map}
use Rattle.refuter.specs.Counts.{Counted, IsCapped, value_rows_of_size, rows_of_size}
use Rattle.refuter.specs.Sequences.{convolution}
use Rattle.refuter.proofs.Counted.{value_rows_none, value_rows_some}
use Rattle.refuter.proofs.counting.Counts.+value_rows.Goals as goal

pub returns-in_default : goal.returns-in_default
returns-in_default t c =
    let of = c.args.self.now in
    let cap : c.self.inside.cap ≡ of.cap = ap (λ (k : Counted). k.cap) c.self.view_is in
    if_ok_map c.one_empty_row.result (IsCapped c.self.inside.cap (rows_of_size ([] ∷ [])))
    (IsCapped of.cap (value_rows_of_size of.sig of.depth c.args.sorts.now)) (λ row r.
    value_rows_none of.sig of.depth of.cap c.args.sorts.now row c.in_default.ensures
    (subst (λ k. IsCapped k (rows_of_size ([] ∷ [])) row) cap r)) c.one_empty_row.ensures

pub returns : goal.returns
returns t c =
    let of = c.args.self.now in
    let cap : c.self.inside.cap ≡ of.cap = ap (λ (k : Counted). k.cap) c.self.view_is in
    let first = c.values.result.now in
    let rest = c.as_slice.result.now in
    let others : IsCapped of.cap (value_rows_of_size of.sig of.depth c.in-Some.others.now) rest = subst
    (λ xs. IsCapped of.cap (value_rows_of_size of.sig of.depth c.in-Some.others.now) xs)
    (sym c.as_slice.ensures) c.in_ok-rest.ensures in
    if_ok_map c.convolve.result
    (IsCapped c.self.inside.cap (convolution (slice_index first) (slice_index rest)))
    (IsCapped of.cap (value_rows_of_size of.sig of.depth c.args.sorts.now)) (λ row r.
    value_rows_some of.sig of.depth of.cap c.in-Some.sort.now c.in-Some.others.now c.args.sorts.now first rest
    row c.in-Some.ensures c.values.ensures others
    (subst (λ k. IsCapped k (convolution (slice_index first) (slice_index rest)) row) cap r)) c.convolve.ensures
