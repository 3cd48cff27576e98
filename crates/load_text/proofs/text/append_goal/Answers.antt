use Rattle.load_text.proofs.Bytes.{goal_text}
use Rattle.load_text.proofs.text.append_goal.Goals as goal

pub returns : goal.returns
returns c = goal_text _ _ _ _ _ _ c.args.number c.in_ok-extend_from_slice.ensures.items
    c.in_ok-append_number.ensures c.in_ok-extend_from_slice-2.ensures.items
    c.in_ok-append_sides.ensures c.in_ok-append_end.ensures
