use Rattle.std.proofs.Common.{◌≡◌, subst, sym}
use Rattle.std.specs.Prelude.{option_map}
use Rattle.file_replies.specs.declared.statuses.Status.TheVariants.{Done}
use Rattle.file_replies.specs.Stops.{AsksFor, Finishes, FinishesReading}
use Rattle.file_replies.proofs.Readings.{reads_nothing}
use Rattle.show_words.specs.Requests.{task_of, view_of}
use Rattle.show_words.specs.declared.requests.View.{View as Shown}
use Rattle.show_cli.specs.Ends.{IsView, IsViewText, IsWithin, further_files}
use Rattle.show_cli.proofs.viewing.show_view.Goals as goal

pub returns-in-Page-clause-finishes : goal.returns-in-Page-clause-finishes
returns-in-Page-clause-finishes g c =
    let held = g.F.Files.held c.args.files.now in
    let task = task_of c.args.command.now in
    let spec = c.args.admitted.now.spec in
    subst (λ (v : Shown). FinishesReading (g.S.Sink.written c.args.out.now)
    (g.S.Sink.written c.reply_to_file.new.out) (g.S.Sink.faults c.args.out.now)
    (g.S.Sink.faults c.reply_to_file.new.out) (g.F.Files.faults c.args.files.now)
    (g.F.Files.faults c.reply_to_file.new.files) (IsView held task spec (view_of v))
    (IsViewText held task spec (view_of v)) c.reply_to_file.result)
    (sym c.in-Page.is) c.reply_to_file.ensures.finishes

pub returns-in-Page-clause-asked : goal.returns-in-Page-clause-asked
returns-in-Page-clause-asked g c =
    subst (λ (v : Shown). AsksFor (further_files (view_of v)) (g.F.Files.asked c.args.files.now)
    (g.F.Files.asked c.reply_to_file.new.files)) (sym c.in-Page.is) c.reply_to_file.ensures.asked

pub write_open-requires-clause-within : goal.write_open-requires-clause-within
write_open-requires-clause-within g c =
    subst (λ (v : Shown). IsWithin (view_of v)) c.in-OpenGoals.is c.requires.within

pub returns-in-OpenGoals-clause-finishes : goal.returns-in-OpenGoals-clause-finishes
returns-in-OpenGoals-clause-finishes g c =
    let held = g.F.Files.held c.args.files.now in
    let task = task_of c.args.command.now in
    let spec = c.args.admitted.now.spec in
    reads_nothing (g.S.Sink.written c.args.out.now) (g.S.Sink.written c.write_open.new.out)
    (g.S.Sink.faults c.args.out.now) (g.S.Sink.faults c.write_open.new.out)
    (g.F.Files.faults c.args.files.now) (g.F.Files.faults c.args.files.now)
    (IsView held task spec task.view) (IsViewText held task spec task.view) c.write_open.result
    (subst (λ (v : Shown). Finishes (g.S.Sink.written c.args.out.now)
    (g.S.Sink.written c.write_open.new.out) (g.S.Sink.faults c.args.out.now)
    (g.S.Sink.faults c.write_open.new.out) (IsView held task spec (view_of v))
    (IsViewText held task spec (view_of v)) c.write_open.result)
    (sym c.in-OpenGoals.is) c.write_open.ensures.finishes)
