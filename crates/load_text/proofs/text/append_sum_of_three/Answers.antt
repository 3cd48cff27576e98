use Rattle.load_text.proofs.Bytes.{sum_of_three_text}
use Rattle.load_text.proofs.text.append_sum_of_three.Goals as goal

pub returns : goal.returns
returns c = sum_of_three_text c.args.height _ _ _ _ _ _ c.in_ok-extend_from_slice.ensures.items
    c.in_ok-append_successors.ensures c.in_ok-extend_from_slice-2.ensures.items
    c.in_ok-append_successors-2.ensures c.in_ok-extend_from_slice-3.ensures.items
