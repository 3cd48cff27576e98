use Rattle.spec_admit.proofs.OneLeftSide.{one_left_side}
use Rattle.spec_admit.proofs.laws.each_call_has_one_left_side.Goals as goal

pub returns : goal.returns
returns g c = record {
  left_side = λ spec f i vs a info function sorted built. one_left_side spec f i vs info sorted built a.apart
      (a.covering f i vs info function sorted built);
  value = λ spec t v w n m s fine a. c.one_value.ensures spec t v w n m s fine a.apart a.whole;
}
