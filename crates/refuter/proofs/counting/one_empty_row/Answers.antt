use Rattle.std.proofs.Common.{arith, rules, ◌≡◌, refl, set, replicate}
use Rattle.refuter.proofs.Counted.{empty_row}
use Rattle.refuter.proofs.counting.one_empty_row.Goals as goal

pub returns : goal.returns
returns c =
    let zeros : c.in_ok-numbers.numbers.items ≡ replicate 256 0 = search rules in
    let row : c.from_vec.result ≡ set c.in_ok-numbers.numbers.items 0 c.min.result = search rules in
    empty_row c.args.cap c.min.result 256 c.in_ok-numbers.numbers.items c.from_vec.result refl zeros row
    (omega (arith, c.min.ensures))
