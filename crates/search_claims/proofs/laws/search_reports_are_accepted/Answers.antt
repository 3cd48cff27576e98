use Rattle.search_claims.proofs.SearchReports.{reports_accepted}
use Rattle.search_claims.proofs.laws.search_reports_are_accepted.Goals as goal

pub returns : goal.returns
returns g c = reports_accepted (g.O.TermOrder.above c.args.order.now)
