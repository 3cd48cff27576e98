use Rattle.std.proofs.Common.{subst}
use Rattle.spec_order.specs.Orders.{above_by}
use Rattle.spec_order.proofs.OwnOrders.{by_own_order}
use Rattle.proof_script.specs.Texts.{IsReportText}
use Rattle.spec_core.specs.WellSorted.{IsWellSorted}
use Rattle.replay_check.specs.declared.answers.Answer.{Answer}
use Rattle.replay_check.specs.declared.answers.Answer.TheVariants.{No}
use Rattle.replay_check.specs.Tells.{Tells}
use Rattle.report_reader.specs.Answers.{TellsFault}
use Rattle.report_reader.specs.declared.errors.ReportError.{ReportError}
use Rattle.file_replies.specs.Replies.{no_report, refused}
use Rattle.spike_cli.proofs.LoadedGoals.{never_no}
use Rattle.spike_cli.proofs.loading.replayed.Goals as goal

pub unreachable-requires : goal.unreachable-requires
unreachable-requires c =
    let spec = c.args.admitted.now.spec in
    let bytes = c.args.bytes.now in
    let fine =
    subst (λ a. IsWellSorted a.spec) c.admitted.view_is
    c.admitted.invariant.0 in
    let told =
    subst (λ a. TellsFault a.spec.sig bytes c.in-Err-Line.field-0)
    c.admitted.view_is c.in-Err-Line.ensures in
    let fault =
    subst (λ (e : ReportError). TellsFault spec.sig bytes e) c.in-Err-Line.field-0-is told in
    never_no c.one_replay.ensures spec bytes _ fine c.requires.finished
    (no_report c.in-Err-Line.field-0-0 fault)

pub unreachable-requires-in-No : goal.unreachable-requires-in-No
unreachable-requires-in-No c =
    let spec = c.args.admitted.now.spec in
    let bytes = c.args.bytes.now in
    let fine =
    subst (λ a. IsWellSorted a.spec) c.admitted.view_is
    c.admitted.invariant.0 in
    let is_text =
    subst (λ a. IsReportText a.spec.sig bytes c.in-Ok.report)
    c.admitted.view_is c.in-Ok.ensures in
    let answer = No c.in-No.line c.in-No.why in
    let told =
    by_own_order (λ above. Tells above spec c.in-Ok.report answer) spec c.requires.ordered
    (subst (λ (a : Answer). Tells (above_by c.args.admitted.now.order) spec c.in-Ok.report a)
    c.in-No.is c.in_ok-replay.ensures) in
    never_no c.one_replay.ensures spec bytes _ fine c.requires.finished
    (refused c.in-Ok.report c.in-No.line c.in-No.why is_text told)
