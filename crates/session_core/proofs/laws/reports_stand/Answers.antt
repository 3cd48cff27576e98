use Rattle.session_core.proofs.StandingReports.{reports_stand}
use Rattle.session_core.proofs.laws.reports_stand.Goals as goal

pub returns : goal.returns
returns g c = λ spec commands state steps p h between. reports_stand (g.O.TermOrder.above c.args.order.now) spec
    commands state steps p h between
