use Rattle.std.specs.Prelude.{Some, None}
use Rattle.term_core.specs.References.{terms_of}
use Rattle.term_core.specs.Tree.{trees_of}
use Rattle.term_order.specs.Operands.{meaning}
use Rattle.kbo_order.specs.Operands.{meanings}
use Rattle.kbo_order.specs.Weights.{symbol_weight}
use Rattle.kbo_order.proofs.Summing.{of-list}
use Rattle.kbo_order.proofs.Standings.{listed, lengths-told}
use Rattle.kbo_order.proofs.compare.+compare.Goals as goal

pub compare_arguments-returns-in_err-first-in-Some-Some : goal.compare_arguments-returns-in_err-first-in-Some-Some
compare_arguments-returns-in_err-first-in-Some-Some t c =
    rw c.from_residual-in_err-first-in-Some-Some.ensures
    (λ l m.
    of-list (symbol_weight c.args.weights.now) c.args.x.0 (c.in-Some-Some.ensures (terms_of c.args.list.now))
    c.in_ok-pair-in-Some-Some.pair.first c.in_ok-others-in-Some-Some.others.first None
    c.in_ok-pair-in-Some-Some.ensures.0 c.in_ok-others-in-Some-Some.ensures.0
    c.in_err-first-in-Some-Some.ensures l)

pub compare_arguments-returns-in_err-second-in-Some-Some : goal.compare_arguments-returns-in_err-second-in-Some-Some
compare_arguments-returns-in_err-second-in-Some-Some t c =
    rw c.from_residual-in_err-second-in-Some-Some.ensures
    (λ l m.
    of-list (symbol_weight c.args.weights.now) c.args.x.0 (c.in-Some-Some.ensures' (terms_of c.args.list.now))
    c.in_ok-pair-in-Some-Some.pair.second c.in_ok-others-in-Some-Some.others.second None
    c.in_ok-pair-in-Some-Some.ensures.1 c.in_ok-others-in-Some-Some.ensures.1
    c.in_err-second-in-Some-Some.ensures m)

pub compare_arguments-returns-in_ok-second-in-Some-Some : goal.compare_arguments-returns-in_ok-second-in-Some-Some
compare_arguments-returns-in_ok-second-in-Some-Some t c =
    let values = terms_of c.args.list.now in
    let w = symbol_weight c.args.weights.now in
    let x = c.args.x.0 in
    let p = c.in-Some-Some.ensures values in
    let q = c.in-Some-Some.ensures' values in
    let pair = c.in_ok-pair-in-Some-Some.ensures in
    let others = c.in_ok-others-in-Some-Some.ensures in (
      of-list w x p c.in_ok-pair-in-Some-Some.pair.first c.in_ok-others-in-Some-Some.others.first
          (Some c.in_ok-first-in-Some-Some.first) pair.0 others.0 c.in_ok-first-in-Some-Some.ensures,
      of-list w x q c.in_ok-pair-in-Some-Some.pair.second c.in_ok-others-in-Some-Some.others.second
          (Some c.in_ok-second-in-Some-Some.second) pair.1 others.1 c.in_ok-second-in-Some-Some.ensures,
      listed w x p q c.before-standing.result
          (c.before-standing.ensures w x (meaning values c.in-Some-Some.a) (meaning values c.in-Some-Some.b)
          (trees_of (meanings values c.in-Some-Some.ts)) (trees_of (meanings values c.in-Some-Some.ss))
          pair.2 others.2
          (lengths-told c.len.result c.len-in-Some-Some.result (meanings values c.in-Some-Some.ts)
          (meanings values c.in-Some-Some.ss) (c.len.ensures values) (c.len-in-Some-Some.ensures values))),
    )
