use Rattle.std.proofs.Common.{sym, subst}
use Rattle.proof_script.specs.Ranges.{ReportIsInRange}
use Rattle.block_steps.proofs.AcceptedInRange.{accepted_in_range}
use Rattle.session_core.proofs.texts.append_report.Goals as goal

pub print_report-requires : goal.print_report-requires
print_report-requires g c =
    let report = c.in_ok-report.report in
    subst (λ a. ReportIsInRange a.spec.sig report) (sym c.admitted.view_is)
    (accepted_in_range (g.O.TermOrder.above c.args.admitted.now.order) c.args.admitted.now.spec report
    c.in_ok-report.ensures.accepted)
