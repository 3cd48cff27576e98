use Rattle.std.proofs.Common.{◌∙◌, ap, sym, subst}
use Rattle.session_core.specs.SessionText.{refused_line, Replies}
use Rattle.session_core.proofs.Writing.{accepted_reply, refused_reply, session_after_refusal}
use Rattle.session_core.proofs.texts.reply_to_change.Goals as goal

pub returns-in-Ok : goal.returns-in-Ok
returns-in-Ok g c =
    let above = g.O.TermOrder.above c.args.admitted.now.order in
    let spec = c.args.admitted.now.spec in
    record {
      session = c.in-Ok.ensures.1.0;
      line =
          accepted_reply above spec c.args.session.now c.requires.carried c.apply.new.self
          c.args.command.now c.in-Ok.pending c.in-Ok.ensures;
    }

pub returns-in_ok-refusal-in-Err : goal.returns-in_ok-refusal-in-Err
returns-in_ok-refusal-in-Err g c =
    let above = g.O.TermOrder.above c.args.admitted.now.order in
    let spec = c.args.admitted.now.spec in
    let why = c.in_ok-refusal-in-Err.ensures in
    let old = c.args.session.now in
    let new = c.apply.new.self in
    let command = c.args.command.now in
    record {
      session =
          session_after_refusal above spec old c.requires.carried new command c.in-Err.error c.in-Err.ensures;
      line =
          subst (λ text. Replies above spec old.commands command (refused_line text) new.commands)
          (sym why.1)
          (refused_reply above spec old c.requires.carried new command c.in-Err.error why.0 c.in-Err.ensures);
    }
