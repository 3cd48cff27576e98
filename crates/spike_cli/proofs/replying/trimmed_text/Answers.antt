use Rattle.std.proofs.Common.{◌≡◌, ℕ, Vec, Global, subst, sym}
use Rattle.spec_order.specs.Orders.{above_by, above_of}
use Rattle.spec_order.proofs.OwnOrders.{by_own_order}
use Rattle.acceptance.specs.Accepting.{IsAccepted}
use Rattle.proof_script.specs.Claims.{report_text}
use Rattle.proof_script.specs.Ranges.{ReportIsInRange}
use Rattle.script_trim.specs.Standing.{TrimmedReportsStand}
use Rattle.script_trim.specs.Trimmed.{LeadsTo, Trims}
use Rattle.soundness.specs.AcceptedAreTrue.{AcceptedAreTrue}
use Rattle.term_core.proofs.Items.{if_ok_map}
use Rattle.spike_cli.specs.Trims.{IsTrimmedText}
use Rattle.spike_cli.proofs.TrimmedReports.{has_text, trimmed_text}
use Rattle.spike_cli.proofs.replying.trimmed_text.Goals as goal

pub trim-requires : goal.trim-requires
trim-requires c =
    subst (λ o. IsAccepted (above_by o) c.args.admitted.now.spec c.args.report.now)
    (sym c.requires.ordered) c.requires.accepted

pub print_report-requires : goal.print_report-requires
print_report-requires c =
    let spec = c.args.admitted.now.spec in
    let own = c.requires.ordered in
    let report = c.args.report.now in
    let trimmed = c.in_ok-trimmed.trimmed in
    let stand =
    by_own_order TrimmedReportsStand spec own
    (subst (λ a. TrimmedReportsStand (above_by a.order)) c.admitted.view_is
    c.trimmed_reports_stand.ensures) in
    let leads =
    by_own_order (λ above. LeadsTo above spec report trimmed) spec own
    c.in_ok-trimmed.ensures.leads in
    subst (λ a. ReportIsInRange a.spec.sig trimmed) (sym c.admitted.view_is)
    (has_text spec c.requires.reported stand report c.requires.read c.requires.accepted trimmed
    leads).in_range

pub returns : goal.returns
returns c =
    let spec = c.args.admitted.now.spec in
    let own = c.requires.ordered in
    let report = c.args.report.now in
    let trimmed = c.in_ok-trimmed.trimmed in
    let stand =
    by_own_order TrimmedReportsStand spec own
    (subst (λ a. TrimmedReportsStand (above_by a.order)) c.admitted.view_is
    c.trimmed_reports_stand.ensures) in
    let sound =
    by_own_order AcceptedAreTrue spec own
    (subst (λ a. AcceptedAreTrue (above_by a.order)) c.admitted.view_is
    c.accepted_are_true.ensures) in
    let leads =
    by_own_order (λ above. LeadsTo above spec report trimmed) spec own
    c.in_ok-trimmed.ensures.leads in
    let trims =
    by_own_order (λ above. Trims above spec report trimmed) spec own
    c.in_ok-trimmed.ensures.trims in
    if_ok_map c.print_report.result
    (λ (text : Vec ℕ Global). text.items ≡ report_text c.admitted.inside.spec.sig trimmed)
    (λ (text : Vec ℕ Global). IsTrimmedText spec report text.items)
    (λ text is. trimmed_text spec c.requires.reported stand report c.requires.read
    c.requires.accepted sound trimmed leads trims text.items
    (subst (λ a. text.items ≡ report_text a.spec.sig trimmed) c.admitted.view_is is))
    c.print_report.ensures
