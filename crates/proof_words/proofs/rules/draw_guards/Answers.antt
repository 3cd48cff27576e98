use Rattle.std.proofs.Common.{[], ◌∷◌, ap, ◌∙◌, arith}
use Rattle.page_core.specs.Pages.{after}
use Rattle.proof_words.specs.ListEvents.{plain}
use Rattle.proof_words.specs.RuleEvents.{guard_events}
use Rattle.proof_words.proofs.Joined.{joined}
use Rattle.proof_words.proofs.Items.{each_left, each_drawn}
use Rattle.proof_words.proofs.rules.draw_guards.Goals as goal

pub loop-guard-preserved : goal.loop-guard-preserved
loop-guard-preserved c =
    let naming = c.args.naming.now in
    let loop = c.loop-guard in
    let item = c.guard-item in
    let p = c.text.new.self in
    let q = c.draw_side.new.page in
    let word = ap (λ bytes. after loop.page (plain bytes ∷ [])) c.condition.ensures in
    each_left (guard_events naming.sig.now naming.names.now) c.args.guards.now
    loop.guard-index item.result c.loop-guard-test.true item.is loop.page q
    (joined loop.page p q _ _ (c.in_ok-text.ensures ∙ word) c.in_ok-draw_side.ensures)
    ∙ loop.invariant

pub returns : goal.returns
returns c =
    let naming = c.args.naming.now in
    each_drawn (guard_events naming.sig.now naming.names.now) c.args.guards.now
    c.loop-guard.guard-index (omega arith) c.loop-guard.page c.args.page.now _ c.loop-guard.invariant
