use Rattle.std.proofs.Common.{◌≡◌, ◌∙◌, ◌+◌, ◌<◌, ◌++◌, ◌∷◌, [], length, map, take, ap, sym, add-one, arith}
use Rattle.std.specs.List.{range_with_len}
use Rattle.std.proofs.lemmas.List.{map_more, take_all}
use Rattle.spec_core.specs.Orders.{arities}
use Rattle.spec_core.specs.declared.records.OrderInfo.TheVariants.{Path}
use Rattle.spec_core.proofs.ByNumber.{range-more, arity-at, count-arities}
use Rattle.spec_core.proofs.orders.order_by_number.Goals as goal

pub loop-number-preserved : goal.loop-number-preserved
loop-number-preserved c =
    let n = c.loop-number.number in
    let sig = c.args.sig.now in
    let e : n ≡ 0 + n = omega arith in
    let here : n < length (arities sig) =
    omega (arith, c.loop-number-test.true, c.symbols-number-end.ensures, count-arities sig)
    in
    let arity = c.len-arity.ensures ∙ sym (arity-at sig n c.info.result.now c.info.ensures) in (
      rw add-one (
          c.in_ok-push.ensures.pushed ∙ ap (λ ks. ks ++ n ∷ []) c.loop-number.invariant.0
          ∙ ap (λ k. range_with_len 0 n ++ k ∷ []) e ∙ sym (range-more 0 n)),
      c.in_ok-push-2.ensures.pushed
          ∙ ap (λ (ks : _). ks ++ c.in_ok-as_written.field-0 ∷ []) c.loop-number.invariant.1
          ∙ ap (λ k. map (range_with_len 1) (take n (arities sig)) ++ k ∷ [])
          (c.in_ok-as_written.ensures ∙ ap (range_with_len 1) arity)
          ∙ sym (map_more (range_with_len 1) (arities sig) n 0 here),
    )

pub returns : goal.returns
returns c =
    let n = c.loop-number.number in
    let sig = c.args.sig.now in
    let all : n ≡ length (arities sig) =
    omega (
      arith,
      c.loop-number-test.false,
      c.loop-number.auto.number-end,
      c.symbols-number-end.ensures,
      count-arities sig,
    )
    in
    let levels = c.loop-number.invariant.0 ∙ ap (range_with_len 0) all in
    let statuses =
    c.loop-number.invariant.1 ∙ ap (map (range_with_len 1)) (take_all n (arities sig) (omega (arith, all)))
    in
    λ i. Path (levels i) (statuses i)
