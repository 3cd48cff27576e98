use Rattle.std.proofs.Common.{◌≡◌, ◌∙◌, ◌+◌, ◌++◌, ◌∷◌, [], ap, sym, add-one, arith}
use Rattle.std.specs.List.{range_with_len}
use Rattle.spec_core.proofs.ByNumber.{range-more}
use Rattle.spec_core.proofs.orders.as_written.Goals as goal

pub loop-number-preserved : goal.loop-number-preserved
loop-number-preserved c =
    let n = c.loop-number.number in
    let e : n + 1 ≡ 1 + n = omega arith in
    rw add-one (
    c.in_ok-push.ensures.pushed ∙ ap (λ ks. ks ++ (n + 1) ∷ []) c.loop-number.invariant
    ∙ ap (λ k. range_with_len 1 n ++ k ∷ []) e ∙ sym (range-more 1 n))
