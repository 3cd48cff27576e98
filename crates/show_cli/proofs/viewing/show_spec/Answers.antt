use Rattle.std.proofs.Common.{◌≡◌, false, subst, sym, true}
use Rattle.std.specs.Prelude.{option_map}
use Rattle.file_replies.specs.declared.statuses.Status.TheVariants.{Refused}
use Rattle.file_replies.proofs.Readings.{reads_bytes}
use Rattle.show_words.specs.Requests.{task_of}
use Rattle.show_cli.specs.Ends.{IsEnd, IsEndText, IsView, IsViewText, has_asked, no_goal_line}
use Rattle.show_cli.proofs.Viewings.{line_end, line_text, reads_same, view_end, view_text}
use Rattle.show_cli.proofs.viewing.show_spec.Goals as goal

pub returns-then-not-has_asked-clause-finishes : goal.returns-then-not-has_asked-clause-finishes
returns-then-not-has_asked-clause-finishes g c =
    let held = g.F.Files.held c.args.files.now in
    let task = task_of c.args.command.now in
    let spec = c.args.admitted.now.spec in
    let none : has_asked spec task.goal ≡ false =
    subst (λ a. has_asked a.spec task.goal ≡ false) c.admitted.view_is (sym c.if-not-has_asked.ensures) in
    reads_bytes (g.S.Sink.written c.args.out.now) (g.S.Sink.written c.refuse_goal.new.out)
    (g.S.Sink.faults c.args.out.now) (g.S.Sink.faults c.refuse_goal.new.out)
    (g.F.Files.faults c.args.files.now) (g.F.Files.faults c.args.files.now) (IsEnd held task spec)
    (IsEndText held task spec) (λ text s. (text ≡ no_goal_line) × (s ≡ Refused))
    (λ text. text ≡ no_goal_line) (line_end held task spec none) (line_text held task spec none)
    c.refuse_goal.result c.refuse_goal.ensures.finishes

pub returns-clause-finishes : goal.returns-clause-finishes
returns-clause-finishes g c =
    let held = g.F.Files.held c.args.files.now in
    let task = task_of c.args.command.now in
    let spec = c.args.admitted.now.spec in
    let has : has_asked spec task.goal ≡ true =
    subst (λ a. has_asked a.spec task.goal ≡ true) c.admitted.view_is (sym c.if-not-has_asked.ensures) in
    reads_same (g.S.Sink.written c.args.out.now) (g.S.Sink.written c.show_view.new.out)
    (g.S.Sink.faults c.args.out.now) (g.S.Sink.faults c.show_view.new.out)
    (g.F.Files.faults c.args.files.now) (g.F.Files.faults c.show_view.new.files)
    (IsView held task spec task.view) (IsEnd held task spec) (IsViewText held task spec task.view)
    (IsEndText held task spec) (view_end held task spec has) (view_text held task spec has)
    c.show_view.result c.show_view.ensures.finishes
