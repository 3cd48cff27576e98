use Rattle.std.proofs.Common.{ℕ, List, subst, sym}
use Rattle.file_replies.proofs.Reported.{has_reports}
use Rattle.explore_cli.specs.Written.{Explores}
use Rattle.explore_cli.proofs.BaseReports.{explores_alone}
use Rattle.explore_cli.proofs.exploring.exploration.Goals as goal

pub base_of-requires-clause-reported : goal.base_of-requires-clause-reported
base_of-requires-clause-reported g c =
    has_reports c.args.bytes.now c.args.accepted.raw c.args.accepted.admitted.spec c.requires.accepted

pub returns : goal.returns
returns g c =
    let spec = c.args.accepted.admitted.spec in
    let raw = c.args.accepted.raw in
    let bytes = c.args.bytes.now in
    let base = c.in_ok-base.base in
    let reported = has_reports bytes raw spec c.requires.accepted in
    let alone =
    explores_alone c.one_report.ensures spec reported.fine base.text.items base.report
    c.in_ok-base.ensures c.nothing_added.ensures bytes raw c.requires.within c.requires.accepted in
    subst (λ (t : List ℕ). Explores spec t raw spec base.text.items base.report)
    (sym c.in_ok-text.ensures.items) alone
