use Rattle.load_text.proofs.Bytes.{one_more}
use Rattle.load_text.proofs.text.generated.Goals as goal

pub loop-number-preserved : goal.loop-number-preserved
loop-number-preserved c = one_more c.loop-number.number _ _ c.loop-number.invariant
    c.in_ok-append_goal.ensures
