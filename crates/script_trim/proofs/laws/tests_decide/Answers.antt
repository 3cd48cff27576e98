use Rattle.script_trim.proofs.QuickTests.{sufficient, necessary, less_allowed}
use Rattle.script_trim.proofs.laws.tests_decide.Goals as goal

pub returns : goal.returns
returns g c =
    let above = g.O.TermOrder.above c.args.order.now in
    let one = c.one_relation.ensures in
    record {
      enough = λ spec report number i step rest fine a p. sufficient above one spec fine report a number i step rest p;
      wanted = λ spec report number i step rest fine a p. necessary above one spec fine report a number i step rest p;
      less =
          λ spec report number i step rest claim cut closed fine a within none less. less_allowed above one spec fine
          report a number claim i step rest cut within closed none less;
    }
