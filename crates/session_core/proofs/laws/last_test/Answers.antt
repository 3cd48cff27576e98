use Rattle.std.proofs.Common.{inr}
use Rattle.session_core.proofs.LastTest.{allowed_related, never, last_whole}
use Rattle.session_core.proofs.laws.last_test.Goals as goal

pub returns : goal.returns
returns g c =
    let above = g.O.TermOrder.above c.args.order.now in
    record {
      related = λ work step made a n. allowed_related work.made made a n;
      exact = λ work step made last. (λ a. never step work made a, λ no. inr (last, no));
      whole = λ spec commands state work step made p is next last. last_whole above spec commands state p work step
          made is next last;
    }
