use Rattle.std.proofs.Common.{refl}
use Rattle.std.specs.Fmt.{digits}
use Rattle.load_text.proofs.text.declarations.Goals as goal

pub returns : goal.returns
unfolding digits
returns c =
    let line-1 = c.in_ok-extend_from_slice.ensures.items in
    let line-2 = c.in_ok-extend_from_slice-2.ensures.items in
    let line-3 = c.in_ok-extend_from_slice-3.ensures.items in
    let line-4 = c.in_ok-extend_from_slice-4.ensures.items in
    let line-5 = c.in_ok-extend_from_slice-5.ensures.items in
    rw (line-5, line-4, line-3, line-2, line-1, c.in_ok-text.ensures.items) refl
