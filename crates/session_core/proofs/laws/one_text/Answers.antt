use Rattle.session_core.proofs.OneText.{text_one}
use Rattle.session_core.proofs.laws.one_text.Goals as goal

pub returns : goal.returns
returns g c = λ spec commands text other busy again fine p q. text_one (g.O.TermOrder.above c.args.order.now) spec
    c.one_relation.ensures fine commands text other busy again p q
