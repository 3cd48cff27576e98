use Rattle.spec_core.proofs.Findings.{one_first, not_both}
use Rattle.session_core.specs.Refusals.{tests}
use Rattle.session_core.proofs.OneState.{accepted_clean}
use Rattle.session_core.proofs.laws.one_answer.Goals as goal

pub returns : goal.returns
returns g c =
    let above = g.O.TermOrder.above c.args.order.now in
    let one = c.one_relation.ensures in
    record {
      not_both = λ spec old new command why fine a r. not_both (tests above spec old command) why (accepted_clean
          above spec one fine old command new a) r;
      one_reason = λ spec old command why reason p q. one_first (tests above spec old command) why reason p q;
    }
