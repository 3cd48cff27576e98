use Rattle.script_trim.proofs.StandingReports.{trimmed_reports_stand}
use Rattle.script_trim.proofs.laws.trimmed_reports_stand.Goals as goal

pub returns : goal.returns
returns g c = trimmed_reports_stand (g.O.TermOrder.above c.args.order.now) c.one_relation.ensures
