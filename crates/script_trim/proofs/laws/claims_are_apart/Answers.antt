use Rattle.script_trim.proofs.OtherClaims.{still, before}
use Rattle.script_trim.proofs.laws.claims_are_apart.Goals as goal

pub returns : goal.returns
returns g c =
    let above = g.O.TermOrder.above c.args.order.now in
    let one = c.one_relation.ensures in
    record {
      still =
          λ spec report n m i name old new step rest fine a at again apart. (
            still above spec one fine report a n name old new at again m apart i step rest,
            before above spec one fine report a n name old new at again m apart i step rest,
          );
    }
