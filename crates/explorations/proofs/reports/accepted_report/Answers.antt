use Rattle.std.proofs.Common.{subst}
use Rattle.spec_core.specs.WellSorted.{IsWellSorted}
use Rattle.spec_order.specs.Orders.{above_by, order_of}
use Rattle.spec_order.proofs.OwnOrders.{by_own_order}
use Rattle.proof_script.specs.Texts.{IsReportText}
use Rattle.replay_check.specs.declared.answers.Answer.{Answer}
use Rattle.replay_check.specs.declared.answers.Answer.TheVariants.{No}
use Rattle.replay_check.specs.Tells.{Tells}
use Rattle.explorations.proofs.RefusedReports.{refused_text}
use Rattle.explorations.proofs.reports.accepted_report.Goals as goal

pub returns-in-No : goal.returns-in-No
returns-in-No c =
    let spec = c.args.admitted.now.spec in
    let bytes = c.args.bytes.now in
    let report = c.in-Ok.report in
    let is_text = subst (λ a. IsReportText a.spec.sig bytes report) c.admitted.view_is c.in-Ok.ensures in
    let fine = subst (λ a. IsWellSorted a.spec) c.admitted.view_is c.admitted.invariant.0 in
    let answer = No c.in-No.line c.in-No.why in
    let told =
    by_own_order (λ above. Tells above spec report answer) spec c.requires
    (subst (λ (a : Answer). Tells (above_by c.args.admitted.now.order) spec report a) c.in-No.is
    c.in_ok-replay.ensures) in
    refused_text c.one_report.ensures spec (c.one_verdict.ensures (order_of spec)) fine bytes report is_text
    c.in-No.line c.in-No.why told
