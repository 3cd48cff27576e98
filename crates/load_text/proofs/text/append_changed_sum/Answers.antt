use Rattle.load_text.proofs.Bytes.{changed_sum_text}
use Rattle.load_text.proofs.text.append_changed_sum.Goals as goal

pub returns : goal.returns
returns c = changed_sum_text c.args.height _ _ _ _ c.in_ok-extend_from_slice.ensures.items
    c.in_ok-append_successors.ensures c.in_ok-extend_from_slice-2.ensures.items
