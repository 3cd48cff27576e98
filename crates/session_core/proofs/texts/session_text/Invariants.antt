use Rattle.std.proofs.Common.{[], take}
use Rattle.session_core.specs.SessionText.{RepliesAll}
use Rattle.session_core.specs.Value.{IsSession}
use Rattle.session_core.proofs.texts.session_text.Given as goal

abbrev pub invariant-loop-command : goal.invariant-loop-command
invariant-loop-command g l =
    let above = g.O.TermOrder.above l.admitted.order in
    IsSession above l.admitted.spec l.session
    × RepliesAll above l.admitted.spec [] (take l.command-index l.commands) l.text.items l.session.commands
