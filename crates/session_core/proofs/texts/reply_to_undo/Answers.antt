use Rattle.std.proofs.Common.{sym, subst}
use Rattle.session_core.specs.declared.errors.UndoError.TheVariants.{Nothing}
use Rattle.session_core.specs.Value.{IsSession}
use Rattle.session_core.proofs.Writing.{nothing_reply, undone_reply}
use Rattle.session_core.proofs.texts.reply_to_undo.Goals as goal

pub returns-in-Ok : goal.returns-in-Ok
returns-in-Ok g c =
    let above = g.O.TermOrder.above c.args.admitted.now.order in
    let spec = c.args.admitted.now.spec in
    record {
      session = c.in-Ok.ensures.1.0;
      line =
          undone_reply above spec c.args.session.now c.requires c.undo.new.self c.in-Ok.pending
          c.in-Ok.ensures;
    }

pub returns-in-Err-Nothing : goal.returns-in-Err-Nothing
returns-in-Err-Nothing g c =
    let above = g.O.TermOrder.above c.args.admitted.now.order in
    let spec = c.args.admitted.now.spec in
    record {
      session = subst (λ v. IsSession above spec v) (sym c.in-Err-Nothing.ensures.1) c.requires;
      line =
          nothing_reply above spec c.args.session.now c.requires c.undo.new.self Nothing
          c.in-Err-Nothing.ensures;
    }
