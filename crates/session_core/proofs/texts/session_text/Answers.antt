use Rattle.std.proofs.Common.{[], ◌∷◌, ◌++◌, take, length, sym, subst}
use Rattle.term_core.proofs.Items.{taken_next}
use Rattle.session_core.specs.SessionText.{RepliesAll}
use Rattle.session_core.proofs.Writing.{new_session, nothing_written, replies_more}
use Rattle.session_core.proofs.texts.session_text.Goals as goal

pub loop-command-init : goal.loop-command-init
loop-command-init g c =
    let above = g.O.TermOrder.above c.args.admitted.now.order in
    let spec = c.args.admitted.now.spec in (
      new_session above spec c.new-session.result c.new-session.ensures.commands c.new-session.ensures.goals,
      nothing_written above spec c.new-text.result.items c.new-session.result.commands
          c.new-text.ensures.items c.new-session.ensures.commands,
    )

pub loop-command-preserved : goal.loop-command-preserved
loop-command-preserved g c =
    let above = g.O.TermOrder.above c.args.admitted.now.order in
    let spec = c.args.admitted.now.spec in
    let reply = c.in_ok-append_reply.ensures in
    let after = c.append_reply.new.session.commands in
    let next = taken_next c.args.commands.now c.loop-command.command-index c.command-item.result
    c.loop-command-test.true c.command-item.is in
    let before = take c.loop-command.command-index c.args.commands.now ++ c.command-item.result ∷ [] in
    let more = replies_more above spec c.loop-command.invariant.1 reply.by.line in (
      reply.by.session,
      subst (λ cs. RepliesAll above spec [] cs c.append_reply.new.text.items after) (sym next)
          (subst (λ text. RepliesAll above spec [] before text after) (sym reply.appended) more),
    )
