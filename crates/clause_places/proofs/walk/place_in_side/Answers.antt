use Rattle.std.proofs.Common.{◌∙◌}
use Rattle.clause_places.proofs.WalkedPlaces.{found_in_side}
use Rattle.clause_places.proofs.walk.place_in_side.Goals as goal

pub returns : goal.returns
returns c =
    found_in_side c.args.side.conclusion c.args.side.number c.args.side.left c.args.term.now
    c.args.index c.new-path.result.items c.pass_term.new.path.items c.from_vec.result
    c.new-path.ensures.items (c.from_vec.ensures ∙ c.reverse.ensures.items)
    (rw c.in-None.is at c.in_ok-pass_term.ensures)
