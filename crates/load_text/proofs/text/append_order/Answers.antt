use Rattle.load_text.proofs.Bytes.{order_text}
use Rattle.load_text.proofs.text.append_order.Goals as goal

pub returns : goal.returns
returns c = order_text c.args.height _ _ _ _ c.in_ok-extend_from_slice.ensures.items
    c.in_ok-append_successors.ensures c.in_ok-extend_from_slice-2.ensures.items
