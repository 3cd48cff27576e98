use Rattle.overlap_check.proofs.SmallEntries.{all_small}
use Rattle.overlap_check.proofs.common_values.small_values.Goals as goal

pub returns : goal.returns
returns c =
    all_small c.args.sig.now c.args.first.now c.args.second.now c.new-values.result
    c.add_small_values.new.values c.add_small_values-2.new.values c.as_slice.result.now
    c.as_slice-2.result.now c.new-values.ensures c.as_slice.ensures c.as_slice-2.ensures
    c.in_ok-add_small_values.ensures c.in_ok-add_small_values-2.ensures
