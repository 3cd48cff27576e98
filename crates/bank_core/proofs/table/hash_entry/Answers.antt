use Rattle.std.proofs.Common.{◌≡◌, [], ◌/◌, drop, ap, subst, arith}
use Rattle.term_core.proofs.Items.{drop_past}
use Rattle.bank_core.specs.Hashing.{stirred_all, hash_by}
use Rattle.bank_core.proofs.table.hash_entry.Goals as goal

pub returns : goal.returns
unfolding hash_by
returns g c =
    let args = c.args.args.now in
    let all = stirred_all g.A.Part.stirred (g.H.Part.stirred 0 c.args.head) args in
    let d : drop c.loop-arg.arg-index args ≡ [] =
    drop_past args c.loop-arg.arg-index (omega (arith, c.loop-arg-test.false)) in
    let e : c.loop-arg.hash ≡ all =
    subst (λ xs. stirred_all g.A.Part.stirred c.loop-arg.hash xs ≡ all) d c.loop-arg.invariant in
    ap (λ n. n / 4294967296) e
