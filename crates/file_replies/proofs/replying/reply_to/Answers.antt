use Rattle.std.proofs.Common.{◌≡◌, ◌∙◌, ℕ, List, ap, sym, subst}
use Rattle.std.specs.Prelude.{codes}
use Rattle.term_core.proofs.Items.{if_ok_map}
use Rattle.spec_order.specs.Orders.{above_by, above_of, order_of}
use Rattle.spec_order.specs.declared.either.AnyOrder.{AnyOrder}
use Rattle.spec_core.specs.declared.records.Spec.{Spec}
use Rattle.clause_core.specs.declared.reports.Report.{Report}
use Rattle.spec_order.proofs.OwnOrders.{by_own_order}
use Rattle.proof_script.specs.Texts.{IsReportText}
use Rattle.replay_check.specs.declared.answers.Answer.{Answer}
use Rattle.replay_check.specs.declared.answers.Answer.TheVariants.{Yes, No}
use Rattle.report_reader.specs.declared.errors.ReportError.{ReportError}
use Rattle.report_reader.specs.declared.errors.ReportError.TheVariants.{Line}
use Rattle.replay_check.specs.Tells.{Tells}
use Rattle.report_reader.specs.Answers.{TellsFault}
use Rattle.file_replies.specs.declared.statuses.Ending.{Ending}
use Rattle.file_replies.specs.declared.statuses.Status.TheVariants as ends
use Rattle.file_replies.specs.Replies.{accepted, no_report, refused, IsReply}
use Rattle.reply_lines.specs.Lines.{no_line}
use Rattle.file_replies.proofs.Readings.{reply_told}
use Rattle.file_replies.proofs.replying.reply_to.Goals as goal

-- a report that is replayed with yes is accepted, and true
told_yes :
    {order : AnyOrder} (spec : Spec) → order ≡ order_of spec → (report : Report) (answer : Answer) →
    answer ≡ Yes → Tells (above_by order) spec report answer → Tells (above_of spec) spec report Yes
told_yes {order = order} spec own report answer is told =
    by_own_order (λ above. Tells above spec report Yes) spec own
    (subst (λ (a : Answer). Tells (above_by order) spec report a) is told)

-- the reply to a line that can't continue
fault_told :
    (IsYes : Spec → Report → List ℕ → Type 0) (spec : Spec) (bytes : List ℕ) (error : ReportError) →
    TellsFault spec.sig bytes error → (reply : Ending) (line : ℕ) → error ≡ Line line →
    reply.text.items ≡ no_line line (codes "not a report") → reply.status ≡ ends.No →
    IsReply IsYes spec bytes reply.text.items reply.status
fault_told IsYes spec bytes error told reply line is text ends_so =
    let fault = subst (λ (e : ReportError). TellsFault spec.sig bytes e) is told in
    subst (λ s. IsReply IsYes spec bytes reply.text.items s) (sym ends_so)
    (reply_told IsYes spec bytes _ _ _ text (no_report line fault))

pub returns-in-Err : goal.returns-in-Err
returns-in-Err g c =
    let spec = c.args.admitted.now.spec in
    let bytes = c.args.bytes.now in
    let told = subst (λ a. TellsFault a.spec.sig bytes c.in-Err.error) c.admitted.view_is c.in-Err.ensures in
    if_ok_map c.reply_to_fault.result _
    (λ (reply : Ending). IsReply (g.Y.YesText.is_text c.args.yes.now) spec bytes reply.text.items reply.status)
    (λ reply h. fault_told (g.Y.YesText.is_text c.args.yes.now) spec bytes c.in-Err.error told reply h.0 h.1 h.2 h.3)
    c.reply_to_fault.ensures

pub text-requires-clause-read : goal.text-requires-clause-read
text-requires-clause-read g c = (
  c.args.bytes.now,
  subst (λ a. IsReportText a.spec.sig c.args.bytes.now c.in-Ok.report) c.admitted.view_is
      c.in-Ok.ensures,
)

pub text-requires-clause-accepted : goal.text-requires-clause-accepted
text-requires-clause-accepted g c =
    (told_yes c.args.admitted.now.spec c.requires.ordered c.in-Ok.report _ c.in-Yes.is
    c.in_ok-replay.ensures).0

pub returns-in-Yes : goal.returns-in-Yes
returns-in-Yes g c =
    let spec = c.args.admitted.now.spec in
    let is_text =
    subst (λ a. IsReportText a.spec.sig c.args.bytes.now c.in-Ok.report) c.admitted.view_is
    c.in-Ok.ensures in
    let told =
    told_yes spec c.requires.ordered c.in-Ok.report _ c.in-Yes.is c.in_ok-replay.ensures in
    accepted c.in-Ok.report is_text told.0 told.1 c.in_ok-text-in-Yes.ensures

pub returns : goal.returns
returns g c =
    let spec = c.args.admitted.now.spec in
    let bytes = c.args.bytes.now in
    let report = c.in-Ok.report in
    let is_text =
    subst (λ a. IsReportText a.spec.sig bytes report) c.admitted.view_is c.in-Ok.ensures in
    let answer = No c.in-No.line c.in-No.why in
    let told =
    by_own_order (λ above. Tells above spec report answer) spec c.requires.ordered
    (subst (λ (a : Answer). Tells (above_by c.args.admitted.now.order) spec report a)
    c.in-No.is c.in_ok-replay.ensures) in
    reply_told (g.Y.YesText.is_text c.args.yes.now) spec bytes _ _ _
    (c.in_ok-no_line-in-No.ensures ∙ ap (λ why. no_line c.in-No.line why) c.reason.ensures)
    (refused report c.in-No.line c.in-No.why is_text told)
