use Rattle.std.proofs.Common.{◌∙◌, ◌++◌, ◌∷◌, [], take, ap, sym}
use Rattle.std.proofs.lemmas.List.{take_more, take_all}
use Rattle.spec_core.proofs.orders.copied.Goals as goal

pub loop-status-init : goal.loop-status-init
loop-status-init c = c.new-made.ensures

pub loop-status-preserved : goal.loop-status-preserved
loop-status-preserved c =
    let all = c.args.statuses.now in
    let i = c.loop-status.status-index in
    let status = c.from_vec.ensures ∙ c.in_ok-from_slice.ensures.items ∙ c.as_slice.ensures in
    c.in_ok-push.ensures.pushed ∙ ap (λ (made : _). made ++ c.from_vec.result ∷ []) c.loop-status.invariant
    ∙ ap (λ (s : _). take i all ++ s ∷ []) (status ∙ c.status-item.is)
    ∙ sym (take_more all i c.status-item.result c.loop-status-test.true)

pub returns : goal.returns
returns c =
    c.loop-status.invariant ∙ take_all c.loop-status.status-index c.args.statuses.now c.loop-status-test.false
